-- What the words of a chain say of the marks that they stand for, and what a bucket that is taken or given back leaves.
use Rattle.std.proofs.Common.{◌≡◌, ◌≢◌, ℕ, suc, ◌+◌, ◌-◌, ◌<◌, ◌≤◌, Bool, true, false, cond, List, [], ◌∷◌, ◌++◌, Option, Some, None, Vec, vec_capacity, length, get_or, set, count_by, is_some, refl, sym, ◌∙◌, ap, subst, arith}
use Rattle.std.specs.List.{list_all}
use Rattle.std.specs.Vec.{with_item}
use Rattle.std.specs.declared.alloc.Global.{Global}
use Rattle.std.proofs.lemmas.List.{get_or-set_same, set-get_or, set-set, length-replicate, length-set, length_push}
use Rattle.std.proofs.lemmas.List.Folds.{sum_by-replicate}
use Rattle.cal_alloc.specs.FreeBuckets.{BucketMarks}
use Rattle.cal_alloc.specs.FreeChain.{chain, first_used, freed, AreFreedOnce, free_chain, marks_by, marks_of, IsChain, IsChainedBy, IsChained}
use Rattle.cal_alloc.specs.PoolLaws.{set-free-is_free}
use Rattle.cal_alloc.specs.declared.free_buckets.FreeBuckets.TheInside.{Inside}
use Rattle.cal_alloc.proofs.Freed.{length-freed, freed-used, freed_one-count, freed-count, length-first_used, first_used-count, first_used-below, first_used-next, length-chain, chain-other}
use Rattle.cal_alloc.proofs.Marks.{list_all-counted, counted-list_all, counted-lt-length}

-- ---- there is a mark for each bucket, and the number of used ones is kept

pub marks-length : (a : Inside) (next : Option (Vec ℕ Global)) → IsChainedBy a next →
    length (marks_by a next) ≡ a.number_of_buckets
marks-length a None chained = length-replicate a.number_of_buckets false
marks-length a (Some next) chained =
    length-freed (first_used (length next.items) a.number_of_buckets) (free_chain a next.items)
    ∙ length-first_used (length next.items) a.number_of_buckets chained.within

pub marks-count : (a : Inside) (next : Option (Vec ℕ Global)) → IsChainedBy a next →
    count_by (λ mark. mark) (marks_by a next) ≡ a.number_of_used
marks-count a None chained =
    omega (arith, chained, sum_by-replicate {X = Bool} (λ mark. cond mark 1 0) a.number_of_buckets false)
marks-count a (Some next) chained =
    let used = chained.used in
    omega (
      arith,
      freed-count (first_used (length next.items) a.number_of_buckets) (free_chain a next.items) chained.once,
      length-chain (length next.items - a.number_of_used) a.first_free next.items,
      first_used-count (length next.items) a.number_of_buckets,
    )

-- the buckets as contracts see them
pub record IsSeen (a : Inside) (marks : BucketMarks) : Type 0 where
  pub length : length marks.used ≡ a.number_of_buckets
  pub count : count_by (λ mark. mark) marks.used ≡ a.number_of_used

pub seen : (a : Inside) (marks : BucketMarks) → IsChained a → marks_of a ≡ marks → IsSeen a marks
seen a marks chained view_is = subst (IsSeen a) view_is (record {
  length = marks-length a a.next chained;
  count = marks-count a a.next chained;
})

-- as many are used as there are exactly where all are
pub seen-full : (a : Inside) (marks : BucketMarks) → IsSeen a marks → a.number_of_used ≡ a.number_of_buckets →
    list_all (λ mark. mark) marks.used ≡ true
seen-full a marks is_seen all = list_all-counted marks.used (is_seen.count ∙ all ∙ sym is_seen.length)

pub seen-not_full : (a : Inside) (marks : BucketMarks) → IsSeen a marks → a.number_of_used ≢ a.number_of_buckets →
    list_all (λ mark. mark) marks.used ≡ false
seen-not_full a marks is_seen fewer = from (list_all (λ mark. mark) marks.used) refl
  where
    from : (full : Bool) → list_all (λ mark. mark) marks.used ≡ full → full ≡ false
    from true e = absurd (fewer (sym is_seen.count ∙ counted-list_all marks.used e ∙ is_seen.length))
    from false e = refl

-- where a bucket is free, fewer are used than there are
pub seen-fewer : (a : Inside) (marks : BucketMarks) → IsSeen a marks → list_all (λ mark. mark) marks.used ≡ false →
    a.number_of_used < a.number_of_buckets
seen-fewer a marks is_seen free =
    let fewer = counted-lt-length marks.used free in let l = is_seen.length in let n = is_seen.count in omega arith

-- ---- where the words are there

pub record IsOpen (a : Inside) (next : Vec ℕ Global) (marks : BucketMarks) : Type 0 where
  pub is_chain : IsChain a next
  pub seen : IsSeen a marks
  pub is_ready : marks.is_ready ≡ true
  pub used : marks.used ≡ freed (first_used (length next.items) a.number_of_buckets) (free_chain a next.items)

pub opened : (a : Inside) (next : Vec ℕ Global) (marks : BucketMarks) → IsChained a → marks_of a ≡ marks →
    a.next ≡ Some next →
    IsOpen a next marks
opened a next marks chained view_is is = record {
  is_chain = subst (IsChainedBy a) is chained;
  seen = seen a marks chained view_is;
  is_ready = ap (λ (m : BucketMarks). m.is_ready) (sym view_is) ∙ ap (λ (n : Option (Vec ℕ Global)). is_some n) is;
  used = ap (λ (m : BucketMarks). m.used) (sym view_is) ∙ ap (marks_by a) is;
}

-- ---- a bucket that was never used is taken

module _ (a : Inside) (next : Vec ℕ Global) (marks : BucketMarks) (open_words : IsOpen a next marks) where
  abbrev after_first_use : Vec ℕ Global → Inside
  after_first_use after = record a { next = Some after; number_of_used = a.number_of_used + 1 }

  -- the chain is empty
  whole : a.number_of_used ≡ length next.items → length next.items - a.number_of_used ≡ 0
  whole same = omega arith

  pub first_use-IsChain : (after : Vec ℕ Global) (word : ℕ) → a.number_of_used ≡ length next.items →
      a.number_of_used < a.number_of_buckets → after.items ≡ next.items ++ word ∷ [] →
      vec_capacity after ≡ vec_capacity next →
      IsChain (after_first_use after) after
  first_use-IsChain after word same fewer pushed room =
      let long : length after.items ≡ length next.items + 1 = ap length pushed ∙ length_push next.items word in
      let none : length after.items - (a.number_of_used + 1) ≡ 0 = omega arith in
      let capacity = open_words.is_chain.room in
      record {
        used = omega arith;
        within = omega arith;
        room = omega arith;
        once =
            subst (λ n. AreFreedOnce (first_used (length after.items) a.number_of_buckets)
            (chain n a.first_free after.items))
            (sym none) tt;
      }

  pub first_use-marks : (after : Vec ℕ Global) (word : ℕ) → a.number_of_used ≡ length next.items →
      a.number_of_used < a.number_of_buckets → after.items ≡ next.items ++ word ∷ [] →
      marks_of (after_first_use after) ≡ record marks { used = set marks.used a.number_of_used true }
  first_use-marks after word same fewer pushed =
      let long : length after.items ≡ a.number_of_used + 1 = ap length pushed ∙ length_push next.items word
      ∙ omega arith in
      let none : length after.items - (a.number_of_used + 1) ≡ 0 = omega arith in
      let before : marks.used ≡ first_used a.number_of_used a.number_of_buckets =
      open_words.used ∙ ap (λ n.
      freed (first_used (length next.items) a.number_of_buckets) (chain n a.first_free next.items)) (whole same)
      ∙ ap (λ n. first_used n a.number_of_buckets) (sym same) in
      let now : marks_by (after_first_use after) (Some after) ≡ set marks.used a.number_of_used true =
      ap (λ n. freed (first_used (length after.items) a.number_of_buckets) (chain n a.first_free after.items)) none
      ∙ ap (λ n. first_used n a.number_of_buckets) long
      ∙ first_used-next a.number_of_used a.number_of_buckets fewer
      ∙ ap (λ m. set m a.number_of_used true) (sym before) in
      let ready = open_words.is_ready in
      cc

  -- it was free
  pub first_use-free : a.number_of_used ≡ length next.items → get_or marks.used a.number_of_used false ≡ false
  first_use-free same = from (get_or marks.used a.number_of_used false) refl
    where
      from : (mark : Bool) → get_or marks.used a.number_of_used false ≡ mark → mark ≡ false
      from false e = refl
      from true e =
          let used = freed-used (first_used (length next.items) a.number_of_buckets) (free_chain a next.items)
          a.number_of_used
          (ap (λ m. get_or m a.number_of_used false) (sym open_words.used) ∙ e) in
          absurd (omega (arith, first_used-below (length next.items) a.number_of_buckets a.number_of_used used))

-- ---- the chain's first bucket is taken

-- a chain that isn't empty, by its first bucket and the others
pub record IsLinked (a : Inside) (next : Vec ℕ Global) (marks : BucketMarks) : Type 0 where
  pub rest : ℕ
  pub counted : length next.items - a.number_of_used ≡ suc rest
  pub counted_after : length next.items - (a.number_of_used + 1) ≡ rest
  pub base : List Bool
  pub base_is : base ≡ first_used (length next.items) a.number_of_buckets
  pub once : AreFreedOnce base (chain (suc rest) a.first_free next.items)
  pub used : marks.used ≡ set (freed base (chain rest (get_or next.items a.first_free 0) next.items)) a.first_free false

pub linked : (a : Inside) (next : Vec ℕ Global) (marks : BucketMarks) → IsOpen a next marks →
    a.number_of_used ≢ length next.items → IsLinked a next marks
linked a next marks open_words apart =
    let few = open_words.is_chain.used in
    let more : length next.items - a.number_of_used ≡ suc (length next.items - (a.number_of_used + 1)) = omega arith in
    let base = first_used (length next.items) a.number_of_buckets in
    record {
      rest = length next.items - (a.number_of_used + 1);
      counted = more;
      counted_after = refl;
      base = base;
      base_is = refl;
      once = subst (λ n. AreFreedOnce base (chain n a.first_free next.items)) more open_words.is_chain.once;
      used = open_words.used ∙ ap (λ n. freed base (chain n a.first_free next.items)) more;
    }

module _ (a : Inside) (next : Vec ℕ Global) (marks : BucketMarks) (open_words : IsOpen a next marks)
    (links : IsLinked a next marks) where
  abbrev after_link : Inside
  after_link = record a {
    next = Some next;
    first_free = get_or next.items a.first_free 0;
    number_of_used =
        a.number_of_used + 1;
  }

  abbrev others : List Bool
  others = freed links.base (chain links.rest (get_or next.items a.first_free 0) next.items)

  pub link-has_word : a.first_free < length next.items
  link-has_word =
      let used = freed-used links.base (chain links.rest (get_or next.items a.first_free 0) next.items) a.first_free
      links.once.0 in
      first_used-below (length next.items) a.number_of_buckets a.first_free
      (ap (λ m. get_or m a.first_free false) (sym links.base_is) ∙ used)

  pub link-free : get_or marks.used a.first_free false ≡ false
  link-free = ap (λ m. get_or m a.first_free false) links.used ∙ set-free-is_free others a.first_free

  pub link-IsChain : IsChain after_link next
  link-IsChain =
      let counted = links.counted in
      record {
        used = omega arith;
        within = open_words.is_chain.within;
        room = open_words.is_chain.room;
        once =
            subst (λ m. AreFreedOnce m (free_chain after_link next.items)) links.base_is
            (subst (λ n. AreFreedOnce links.base (chain n (get_or next.items a.first_free 0) next.items))
            (sym links.counted_after)
            links.once.1);
      }

  pub link-marks : marks_of after_link ≡ record marks { used = set marks.used a.first_free true }
  link-marks =
      let now : marks_by after_link (Some next) ≡ others =
      ap (λ m. freed m (free_chain after_link next.items)) (sym links.base_is)
      ∙ ap (λ n. freed links.base (chain n (get_or next.items a.first_free 0) next.items)) links.counted_after in
      let back : set marks.used a.first_free true ≡ others =
      ap (λ m. set m a.first_free true) links.used ∙ set_back others a.first_free links.once.0 in
      let ready = open_words.is_ready in
      cc
    where
      set_back : (m : List Bool) (i : ℕ) → get_or m i false ≡ true → set (set m i false) i true ≡ m
      set_back m i is = set-set m i false true ∙ ap (set m i) (sym is) ∙ set-get_or m i false

-- ---- a bucket is given back

module _ (a : Inside) (next : Vec ℕ Global) (marks : BucketMarks) (open_words : IsOpen a next marks) (bucket : ℕ)
    (used : get_or marks.used bucket false ≡ true) where
  abbrev base : List Bool
  base = first_used (length next.items) a.number_of_buckets

  abbrev after_return : Inside
  after_return = record a {
    next = Some (with_item next bucket a.first_free);
    first_free = bucket;
    number_of_used =
        a.number_of_used - 1;
  }

  marked : get_or (freed base (free_chain a next.items)) bucket false ≡ true
  marked = ap (λ m. get_or m bucket false) (sym open_words.used) ∙ used

  pub return-has_word : bucket < length next.items
  return-has_word =
      first_used-below (length next.items) a.number_of_buckets bucket
      (freed-used base (free_chain a next.items) bucket marked)

  pub return-some : 1 ≤ a.number_of_used
  return-some = omega (arith, freed_one-count marks.used bucket used, open_words.seen.count)

  -- the chain now
  chain_now : chain (length (set next.items bucket a.first_free) - (a.number_of_used - 1)) bucket
      (set next.items bucket a.first_free) ≡ bucket ∷ free_chain a next.items
  chain_now =
      let few = open_words.is_chain.used in
      let some = return-some in
      let long = length-set next.items bucket a.first_free in
      let more : length (set next.items bucket a.first_free) - (a.number_of_used - 1) ≡
      suc (length next.items - a.number_of_used) = omega arith in
      ap (λ n. chain n bucket (set next.items bucket a.first_free)) more
      ∙ ap (λ n. bucket ∷ chain (length next.items - a.number_of_used) n (set next.items bucket a.first_free))
      (get_or-set_same next.items bucket a.first_free 0 return-has_word)
      ∙ ap (λ rest. bucket ∷ rest)
      (chain-other base (length next.items - a.number_of_used) a.first_free next.items bucket a.first_free marked)

  pub return-IsChain : IsChain after_return (with_item next bucket a.first_free)
  return-IsChain =
      let few = open_words.is_chain.used in
      let long = length-set next.items bucket a.first_free in
      let within = open_words.is_chain.within in
      record {
        used = omega arith;
        within = omega arith;
        room = open_words.is_chain.room;
        once =
            subst (λ n. AreFreedOnce (first_used n a.number_of_buckets)
            (free_chain after_return (set next.items bucket a.first_free)))
            (sym long) (subst (AreFreedOnce base) (sym chain_now) (marked, open_words.is_chain.once));
      }

  pub return-marks : marks_of after_return ≡ record marks { used = set marks.used bucket false }
  return-marks =
      let long = length-set next.items bucket a.first_free in
      let now : marks_by after_return (Some (with_item next bucket a.first_free)) ≡ set marks.used bucket false =
      ap (λ n. freed (first_used n a.number_of_buckets) (free_chain after_return (set next.items bucket a.first_free)))
      long
      ∙ ap (freed base) chain_now ∙ ap (λ m. set m bucket false) (sym open_words.used) in
      let ready = open_words.is_ready in
      cc
