-- What a page shows, one text after another.
use Rattle.std.proofs.Common.{◌≡◌, ℕ, zero, suc, ◌+◌, Some, ◌<◌, Bool, true, false, List, [], ◌∷◌, ◌++◌, length, take, refl, sym, ap, ◌∙◌, subst, append_assoc, add-one, arith}
use Rattle.std.specs.Prelude.{MatchBool, slice_get}
use Rattle.std.specs.List.{flat_map}
use Rattle.std.proofs.lemmas.List.{append-nil, length-append}
use Rattle.std.proofs.lemmas.Option.{same_Some}
use Rattle.cal_transport.specs.declared.reply.Reply.{Reply}
use Rattle.cal_program.specs.ReplyText.{line, reply_text, reply_lines}
use Rattle.cal_program.specs.Streams.{SinkState, Puts, PutsFront, PutsAll, FailsWithin}
use Rattle.cal_program.specs.Printing.{BufferState, PutsToHeld, HasPrinted, Follows}
use Rattle.cal_program.specs.Spelling.{hex, hex_pair}
use Rattle.cal_program.proofs.StreamLemmas.{Puts-none, Puts-then, PutsFront-then, PutsFront-more}

abbrev pub buffer_state : List ℕ → Bool → BufferState
buffer_state held failed = record { held = held; failed = failed }

-- nothing was done
pub Follows-none : (p : BufferState) (s : SinkState) → Follows p s p s []
Follows-none p s from shown h = subst (λ (t : List ℕ). HasPrinted from p s t) (sym (append-nil shown)) h

-- one text after another
pub Follows-then : (a b c : BufferState) (s t u : SinkState) (x y : List ℕ) → Follows a s b t x → Follows b t c u y →
    Follows a s c u (x ++ y)
Follows-then a b c s t u x y p q from shown h =
    subst (λ (t : List ℕ). HasPrinted from c u t) (append_assoc shown x y) (q from (shown ++ x) (p from shown h))

-- the page holds the text
Follows-held-by : (failed : Bool) (h x : List ℕ) (s : SinkState) →
    Follows (buffer_state h failed) s (buffer_state (h ++ x) failed) s x
Follows-held-by true h x s from shown p =
    record { some = omega (arith, p.some, length-append shown x); puts = PutsFront-more from s shown x p.puts }
Follows-held-by false h x s from shown p = record {
  put = p.put;
  parts = ap (λ (t : List ℕ). t ++ x) p.parts ∙ append_assoc p.put h x;
  puts = p.puts;
}

pub Follows-held : (buffer now : BufferState) (h x : List ℕ) (failed : Bool) (s : SinkState) →
    buffer_state h failed ≡ buffer → buffer_state (h ++ x) failed ≡ now → Follows buffer s now s x
Follows-held buffer now h x failed s e f =
    subst (λ (p : BufferState). Follows p s now s x) e
    (subst (λ (p : BufferState). Follows (buffer_state h failed) s p s x) f (Follows-held-by failed h x s))

-- what the page held was put
Follows-put-by : (h : List ℕ) (s t : SinkState) → Puts s t h → 0 < length h →
    Follows (buffer_state h false) s (buffer_state [] false) t []
Follows-put-by h s t puts some from shown p = record {
  put = p.put ++ h;
  parts = append-nil shown ∙ p.parts ∙ sym (append-nil (p.put ++ h));
  puts = record {
    puts = Puts-then from s t p.put h p.puts.puts puts;
    untouched = λ none. absurd (omega (arith, ap length none, length-append p.put h));
  };
}

pub Follows-put : (buffer : BufferState) (h : List ℕ) (failed : Bool) (s t : SinkState) →
    buffer_state h failed ≡ buffer → failed ≡ false → Puts s t h → 0 < length h →
    Follows buffer s (buffer_state [] failed) t []
Follows-put buffer h failed s t e clean puts some =
    subst (λ (p : BufferState). Follows p s (buffer_state [] failed) t []) e
    (subst (λ (b : Bool). Follows (buffer_state h b) s (buffer_state [] b) t []) (sym clean)
    (Follows-put-by h s t puts some))

-- what the page held wasn't put
Follows-failed-by : (h : List ℕ) (s t : SinkState) → PutsFront s t h → 0 < length h →
    Follows (buffer_state h false) s (buffer_state [] true) t []
Follows-failed-by h s t puts some from shown p =
    let whole : shown ++ [] ≡ p.put ++ h = append-nil shown ∙ p.parts in
    record {
      some = omega (arith, ap length whole, length-append p.put h);
      puts = subst (λ (t' : List ℕ). PutsFront from t t') (sym whole)
          (PutsFront-then from s t p.put h p.puts.puts puts);
    }

pub Follows-failed : (buffer : BufferState) (h : List ℕ) (failed : Bool) (s t : SinkState) →
    buffer_state h failed ≡ buffer → failed ≡ false → PutsFront s t h → 0 < length h →
    Follows buffer s (buffer_state [] true) t []
Follows-failed buffer h failed s t e clean puts some =
    subst (λ (p : BufferState). Follows p s (buffer_state [] true) t []) e
    (subst (λ (b : Bool). Follows (buffer_state h b) s (buffer_state [] true) t []) (sym clean)
    (Follows-failed-by h s t puts some))

-- bytes that are some have no dash
pub hex-some : (bytes : List ℕ) → 0 < length bytes → flat_map hex_pair bytes ≡ hex bytes
hex-some [] h = absurd (omega arith)
hex-some (byte ∷ bytes) h = refl

-- ---- a whole text, from an empty page to an empty page

pub shown-none : (s : SinkState) → HasPrinted s (buffer_state [] false) s []
shown-none s = record { put = []; parts = refl; puts = record { puts = Puts-none s; untouched = λ none. refl } }

pub shown-failed : (from now : SinkState) (buffer : BufferState) (text : List ℕ) → buffer.failed ≡ true →
    HasPrinted from buffer now text → FailsWithin from now text
shown-failed from now buffer text failed h = subst
    (λ (b : Bool). MatchBool b (FailsWithin from now text) (PutsToHeld from now buffer.held text)) failed h

PutsToHeld-all : (from now : SinkState) (held text : List ℕ) → held ≡ [] → PutsToHeld from now held text →
    PutsAll from now text
PutsToHeld-all from now held text none p =
    subst (λ (t : List ℕ). PutsAll from now t) (sym (p.parts ∙ ap (λ (h : List ℕ). p.put ++ h) none ∙ append-nil p.put))
    p.puts

pub shown-all : (from now : SinkState) (buffer : BufferState) (text : List ℕ) → buffer.failed ≡ false →
    buffer.held ≡ [] → HasPrinted from buffer now text → PutsAll from now text
shown-all from now buffer text clean none h =
    PutsToHeld-all from now buffer.held text none
    (subst (λ (b : Bool). MatchBool b (FailsWithin from now text) (PutsToHeld from now buffer.held text)) clean h)

-- ---- texts of several parts

pub shows-same : (from : SinkState) (buffer : BufferState) (s : SinkState) (x y : List ℕ) → x ≡ y →
    HasPrinted from buffer s x → HasPrinted from buffer s y
shows-same from buffer s x y e h = subst (λ (t : List ℕ). HasPrinted from buffer s t) e h

pub slot-parts : (shown w a b c : List ℕ) →
    (((((shown ++ w) ++ a) ++ 32 ∷ []) ++ b) ++ 58 ∷ []) ++ c ≡
    shown ++ (w ++ ((((a ++ 32 ∷ []) ++ b) ++ 58 ∷ []) ++ c))
slot-parts shown w a b c = simp append_assoc

pub count-parts : (shown a b c d e : List ℕ) →
    ((((((((shown ++ a) ++ 32 ∷ []) ++ b) ++ 32 ∷ []) ++ c) ++ 32 ∷ []) ++ d) ++ 32 ∷ []) ++ e ≡
    shown ++ (a ++ 32 ∷ (b ++ 32 ∷ (c ++ 32 ∷ (d ++ 32 ∷ e))))
count-parts shown a b c d e = simp append_assoc

-- a line of four words, each before a number
pub line-parts : (shown a b c d e f g h : List ℕ) →
    ((((((((shown ++ a) ++ b) ++ c) ++ d) ++ e) ++ f) ++ g) ++ h) ++ 10 ∷ [] ≡
    shown ++ ((((((((a ++ b) ++ c) ++ d) ++ e) ++ f) ++ g) ++ h) ++ 10 ∷ [])
line-parts shown a b c d e f g h = simp append_assoc

-- a whole text failed
pub whole-failed : (p q r : BufferState) (s t u : SinkState) (text : List ℕ) → p ≡ buffer_state [] false →
    Follows p s q t text → Follows q t r u [] → r.failed ≡ true → FailsWithin s u text
whole-failed p q r s t u text new f g failed =
    shown-failed s u r text failed
    (shows-same s r u (text ++ []) text (append-nil text)
    (g s text (f s [] (subst (λ (buffer : BufferState). HasPrinted s buffer s []) (sym new) (shown-none s)))))

-- a whole text was put
pub whole-all : (p q r : BufferState) (s t u : SinkState) (text : List ℕ) → p ≡ buffer_state [] false →
    Follows p s q t text → Follows q t r u [] → r.failed ≡ false → r.held ≡ [] → PutsAll s u text
whole-all p q r s t u text new f g clean none =
    shown-all s u r text clean none
    (shows-same s r u (text ++ []) text (append-nil text)
    (g s text (f s [] (subst (λ (buffer : BufferState). HasPrinted s buffer s []) (sym new) (shown-none s)))))

-- one reply more
pub reply_lines-more : (replies : List Reply) (place : ℕ) (reply : Reply) → slice_get replies place ≡ Some reply →
    reply_lines (take (suc place) replies) ≡ reply_lines (take place replies) ++ line (reply_text reply)
reply_lines-more [] place reply e = absurd cc
reply_lines-more (first ∷ replies) zero reply e =
    let same : first ≡ reply = same_Some first reply e in
    rw same (append-nil (line (reply_text reply)))
reply_lines-more (first ∷ replies) (suc place) reply e =
    ap (λ (t : List ℕ). line (reply_text first) ++ t) (reply_lines-more replies place reply e)
    ∙ sym (append_assoc (line (reply_text first)) (reply_lines (take place replies)) (line (reply_text reply)))

pub reply-parts : (shown : List ℕ) (replies : List Reply) (place : ℕ) (reply : Reply) →
    slice_get replies place ≡ Some reply →
    ((shown ++ reply_lines (take place replies)) ++ reply_text reply) ++ 10 ∷ [] ≡
    shown ++ reply_lines (take (place + 1) replies)
reply-parts shown replies place reply e =
    rw add-one
    (append_assoc (shown ++ reply_lines (take place replies)) (reply_text reply) (10 ∷ [])
    ∙ append_assoc shown (reply_lines (take place replies)) (line (reply_text reply))
    ∙ ap (λ (t : List ℕ). shown ++ t) (sym (reply_lines-more replies place reply e)))
