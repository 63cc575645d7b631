-- Calls of a source and of a sink, one after another.
use Rattle.std.proofs.Common.{◌≡◌, ℕ, ◌+◌, ◌≤◌, List, [], ◌++◌, length, take, Option, Some, None, refl, sym, ap, ◌∙◌, append_assoc, subst, arith}
use Rattle.std.specs.Io.KnownBytes.{Keeps, Appends, Consumes}
use Rattle.std.proofs.lemmas.List.{append-nil, length-append, take-append-le}
use Rattle.std.proofs.Math.Seq.{take-append-add, take-length}
use Rattle.cal_program.specs.Streams.{SourceState, SinkState, Rose, Takes, TakesNothing, Puts, AppendsFront, PutsFront}
use Rattle.cal_program.specs.ReadAll.{script_limit, FailsReading}

-- ---- sources

Consumes-none : (left : Option (List ℕ)) → Consumes left left []
Consumes-none None = tt
Consumes-none (Some xs) = refl

Consumes-then : (a b c : Option (List ℕ)) (x y : List ℕ) → Consumes a b x → Consumes b c y → Consumes a c (x ++ y)
Consumes-then None b c x y p q = tt
Consumes-then (Some xs) (Some ys) None x y p q = absurd q
Consumes-then (Some xs) (Some ys) (Some zs) x y p q = p ∙ ap (λ (t : List ℕ). x ++ t) q ∙ sym (append_assoc x y zs)
Consumes-then (Some xs) None c x y p q = absurd p

Consumes-keeps : (a b c : Option (List ℕ)) (x : List ℕ) → Consumes a b x → Keeps b c → Consumes a c x
Consumes-keeps None b c x p q = tt
Consumes-keeps (Some xs) None c x p q = absurd p
Consumes-keeps (Some xs) (Some ys) None x p q = absurd q
Consumes-keeps (Some xs) (Some ys) (Some zs) x p q = p ∙ ap (λ (t : List ℕ). x ++ t) (sym q)

-- no call was made
pub Takes-none : (a : SourceState) → Takes a a []
Takes-none a = record { front = Consumes-none a.left; counted = omega arith; no_fault = refl }

pub Takes-then : (a b c : SourceState) (x y : List ℕ) → Takes a b x → Takes b c y → Takes a c (x ++ y)
Takes-then a b c x y p q = record {
  front = Consumes-then a.left b.left c.left x y p.front q.front;
  counted = omega (arith, p.counted, q.counted, length-append x y);
  no_fault = q.no_fault ∙ p.no_fault;
}

Rose-later : (a b c : ℕ) → b ≡ a → Rose b c → Rose a c
Rose-later a b c p q = omega arith

-- a call failed after others
pub Takes-failed : (a b c : SourceState) (x : List ℕ) → Takes a b x → TakesNothing b c →
    length x ≤ script_limit → FailsReading a c
Takes-failed a b c x p q le = record {
  bytes = x;
  front = Consumes-keeps a.left b.left c.left x p.front q.kept;
  counted = omega (arith, p.counted, q.counted);
  within = le;
  fault = Rose-later a.faults b.faults c.faults p.no_fault q.fault;
}

-- ---- sinks

Appends-none : (written : Option (List ℕ)) → Appends written written []
Appends-none None = tt
Appends-none (Some xs) = sym (append-nil xs)

pub Appends-then : (a b c : Option (List ℕ)) (x y : List ℕ) → Appends a b x → Appends b c y → Appends a c (x ++ y)
Appends-then None b c x y p q = tt
Appends-then (Some xs) None c x y p q = absurd p
Appends-then (Some xs) (Some ys) None x y p q = absurd q
Appends-then (Some xs) (Some ys) (Some zs) x y p q = q ∙ ap (λ (t : List ℕ). t ++ y) p ∙ append_assoc xs x y

Appends-keeps : (a b c : Option (List ℕ)) (x : List ℕ) → Appends a b x → Keeps b c → Appends a c x
Appends-keeps None b c x p q = tt
Appends-keeps (Some xs) None c x p q = absurd p
Appends-keeps (Some xs) (Some ys) None x p q = absurd q
Appends-keeps (Some xs) (Some ys) (Some zs) x p q = q ∙ p

AppendsFront-of : (a c : Option (List ℕ)) (x rest text : List ℕ) → x ++ rest ≡ text → Appends a c x →
    AppendsFront a c text
AppendsFront-of a c x rest text e p =
    subst (λ (t : List ℕ). AppendsFront a c t) e (
      length x,
      omega (arith, length-append x rest),
      subst (λ (t : List ℕ). Appends a c t) (sym (take-append-le (length x) x rest (omega arith) ∙ take-length x)) p,
    )

-- a write failed after others
pub AppendsFront-kept : (a b c : Option (List ℕ)) (x rest text : List ℕ) → x ++ rest ≡ text → Appends a b x →
    Keeps b c →
    AppendsFront a c text
AppendsFront-kept a b c x rest text e p q = AppendsFront-of a c x rest text e (Appends-keeps a b c x p q)

-- a write took nothing after others
pub AppendsFront-none : (a b c : Option (List ℕ)) (x rest text : List ℕ) → x ++ rest ≡ text → Appends a b x →
    Appends b c [] → AppendsFront a c text
AppendsFront-none a b c x rest text e p q =
    AppendsFront-of a c x rest text e
    (subst (λ (t : List ℕ). Appends a c t) (append-nil x) (Appends-then a b c x [] p q))

pub Puts-none : (a : SinkState) → Puts a a []
Puts-none a = record { appended = Appends-none a.written; no_fault = refl }

pub Puts-then : (a b c : SinkState) (x y : List ℕ) → Puts a b x → Puts b c y → Puts a c (x ++ y)
Puts-then a b c x y p q = record {
  appended = Appends-then a.written b.written c.written x y p.appended q.appended;
  no_fault = q.no_fault ∙ p.no_fault;
}

pub PutsFront-then : (a b c : SinkState) (x y : List ℕ) → Puts a b x → PutsFront b c y → PutsFront a c (x ++ y)
PutsFront-then a b c x y p q = record {
  appended = (
    length x + q.appended.0,
    omega (arith, q.appended.1, length-append x y),
    subst (λ (t : List ℕ). Appends a.written c.written t) (sym (take-append-add x y q.appended.0))
        (Appends-then a.written b.written c.written x (take q.appended.0 y) p.appended q.appended.2),
  );
  fault = Rose-later a.faults b.faults c.faults p.no_fault q.fault;
}

take-more : (x y : List ℕ) (k : ℕ) → k ≤ length x → take k x ≡ take k (x ++ y)
take-more x y k le = sym (take-append-le k x y le)

-- more of the text was due
pub PutsFront-more : (a b : SinkState) (x y : List ℕ) → PutsFront a b x → PutsFront a b (x ++ y)
PutsFront-more a b x y p = record {
  appended = (
    p.appended.0,
    omega (arith, p.appended.1, length-append x y),
    subst (λ (t : List ℕ). Appends a.written b.written t) (take-more x y p.appended.0 p.appended.1) p.appended.2,
  );
  fault = p.fault;
}
