-- A registry has the entry of each open handle, over every run.
use Rattle.std.proofs.Common.{◌≡◌, ◌≢◌, ◌⊎◌, ℕ, ◌+◌, ◌-◌, ◌^◌, ◌<◌, ◌≤◌, min, cond, not, ◌==◌, List, [], ◌∷◌, length, Option, Some, None, IsSome, IsSomeAnd, option_map, filter, refl, sym, ap, subst, ◌∙◌, inl, inr, true≢false, arith, eq-eqb, ne_eqb}
use Rattle.std.proofs.lemmas.Bool.{cases_Bool, cases_eq, cases_lt, cond-true, cond-false}
use Rattle.std.proofs.lemmas.List.{get_or_past}
use Rattle.std.proofs.lemmas.List.Sums.{sum_by-cons}
use Rattle.cal_storage.specs.declared.entry.Entry.{Entry}
use Rattle.cal_storage.specs.declared.entry.Slot.TheVariants.{Ended}
use Rattle.cal_storage.specs.Changes.{Change, creates, opens, removes, closes, finishes, withdraws, sets_value, sets_version, after, after_all, IsAllowed}
use Rattle.cal_storage.specs.Contents.{Contents, Handle, is_id, entry_in, one_more, one_less, nothing_registered, id_at, entry_of, Has, after_creation}
use Rattle.cal_storage.specs.ContentsLaws.{ChangesEntry, ChangesNamedEntry, TakesName, LetsGo, one_holder_more, one_holder_less, if_held}
use Rattle.cal_storage.specs.OpenHandles.{open_on, with_one_closed, ServesHandles, open_after, open_after_all, HasHandle, IsRunOfHandles}
use Rattle.cal_storage.specs.Soundness.{IsSound}
use Rattle.cal_storage.specs.EntryLemmas.{after_opening-ChangesEntry, with_value-ChangesEntry, after_finish-ChangesEntry, with_version-ChangesNamedEntry, after_creation-MakesEntry, after_removal-TakesName, after_close-LetsGo, after_withdrawal-Withdraws}
use Rattle.cal_storage.specs.HandleLemmas.{has_entry, after-IsSound}
use Rattle.cal_storage.specs.SoundnessLemmas.{is_id-true, is_id-same}
use Rattle.cal_storage.proofs.LaterLemmas.{after_all-IsLater}

-- ---- counts of open handles

open_on-cons : (other : ℕ) (others : List ℕ) (id : ℕ) →
    open_on (other ∷ others) id ≡ cond (other == id) 1 0 + open_on others id
open_on-cons other others id = sum_by-cons (λ o. cond (o == id) 1 0) other others

open_on-same : (others : List ℕ) (id : ℕ) → open_on (id ∷ others) id ≡ 1 + open_on others id
open_on-same others id = open_on-cons id others id ∙ ap
    (λ n. n + open_on others id) (cond-true (id == id) 1 0 (eq-eqb id id refl))

open_on-other : (other : ℕ) (others : List ℕ) (id : ℕ) → id ≢ other → open_on (other ∷ others) id ≡ open_on others id
open_on-other other others id apart = open_on-cons other others id ∙ ap
    (λ n. n + open_on others id) (cond-false (other == id) 1 0 (ne_eqb other id (λ same. apart (sym same))))
    ∙ omega arith

after_close-same : (open_handles : List ℕ) (id : ℕ) → 0 < open_on open_handles id →
    1 + open_on (with_one_closed open_handles id) id ≡ open_on open_handles id
after_close-same [] id some = absurd (omega arith)
after_close-same (other ∷ others) id some =
    elim (cases_eq id other) [
      | inl same ↦
          ap (λ l. 1 + open_on l id)
          (cond-true (other == id) others (other ∷ with_one_closed others id) (eq-eqb other id (sym same)))
          ∙ sym (ap (λ o. open_on (o ∷ others) id) (sym same) ∙ open_on-same others id)
      | inr apart ↦
          let left : 0 < open_on others id = omega (arith, some, open_on-other other others id apart) in
          ap (λ l. 1 + open_on l id)
          (cond-false (other == id) others (other ∷ with_one_closed others id)
          (ne_eqb other id (λ same. apart (sym same))))
          ∙ ap (λ n. 1 + n) (open_on-other other (with_one_closed others id) id apart)
          ∙ after_close-same others id left
          ∙ sym (open_on-other other others id apart)
    ]

after_close-other : (open_handles : List ℕ) (id another : ℕ) → another ≢ id →
    open_on (with_one_closed open_handles id) another ≡ open_on open_handles another
after_close-other [] id another apart = refl
after_close-other (other ∷ others) id another apart =
    elim (cases_eq other id) [
      | inl same ↦
          ap (λ l. open_on l another)
          (cond-true (other == id) others (other ∷ with_one_closed others id) (eq-eqb other id same))
          ∙ sym (open_on-other other others another (λ equal. apart (equal ∙ same)))
      | inr differs ↦
          ap (λ l. open_on l another)
          (cond-false (other == id) others (other ∷ with_one_closed others id) (ne_eqb other id differs))
          ∙ open_on-cons other (with_one_closed others id) another
          ∙ ap (λ n. cond (other == another) 1 0 + n) (after_close-other others id another apart)
          ∙ sym (open_on-cons other others another)
    ]

abbrev not_on : ℕ → List ℕ → List ℕ
not_on id open_handles = filter (λ other. not (other == id)) open_handles

void-same : (open_handles : List ℕ) (id : ℕ) → open_on (not_on id open_handles) id ≡ 0
void-same [] id = refl
void-same (other ∷ others) id =
    elim (cases_eq id other) [
      | inl same ↦
          ap (λ l. open_on l id) (cond-false (not (other == id)) (other ∷ not_on id others) (not_on id others)
          (ap not (eq-eqb other id (sym same))))
          ∙ void-same others id
      | inr apart ↦
          ap (λ l. open_on l id) (cond-true (not (other == id)) (other ∷ not_on id others) (not_on id others)
          (ap not (ne_eqb other id (λ same. apart (sym same)))))
          ∙ open_on-other other (not_on id others) id apart
          ∙ void-same others id
    ]

void-other : (open_handles : List ℕ) (id another : ℕ) → another ≢ id →
    open_on (not_on id open_handles) another ≡ open_on open_handles another
void-other [] id another apart = refl
void-other (other ∷ others) id another apart =
    elim (cases_eq other id) [
      | inl same ↦
          ap (λ l. open_on l another)
          (cond-false (not (other == id)) (other ∷ not_on id others) (not_on id others)
          (ap not (eq-eqb other id same)))
          ∙ void-other others id another apart
          ∙ sym (open_on-other other others another (λ equal. apart (equal ∙ same)))
      | inr differs ↦
          ap (λ l. open_on l another)
          (cond-true (not (other == id)) (other ∷ not_on id others) (not_on id others)
          (ap not (ne_eqb other id differs)))
          ∙ open_on-cons other (not_on id others) another
          ∙ ap (λ n. cond (other == another) 1 0 + n) (void-other others id another apart)
          ∙ sym (open_on-cons other others another)
    ]

-- ---- counts of holders beside them

one_more_serves : (open_handles holders : ℕ) → (0 < open_handles → min open_handles (2 ^ 64 - 1) ≤ holders) →
    min (1 + open_handles) (2 ^ 64 - 1) ≤ one_more holders
one_more_serves open_handles holders serves =
    elim (cases_lt 0 open_handles) [
      | inl some ↦ let enough = serves some in omega arith
      | inr none ↦ omega arith
    ]

one_less_serves : (open_handles holders : ℕ) → 0 < open_handles → min (1 + open_handles) (2 ^ 64 - 1) ≤ holders →
    (min open_handles (2 ^ 64 - 1) ≤ one_less holders) × (0 < one_less holders)
one_less_serves open_handles holders some serves =
    elim (cases_eq holders (2 ^ 64 - 1)) [
      | inl full ↦
          let stays : one_less holders ≡ holders = cond-true (holders == 2 ^ 64 - 1) holders (holders - 1)
          (eq-eqb holders (2 ^ 64 - 1) full) in
          (rw stays (omega arith), rw stays (omega arith))
      | inr less ↦
          let falls : one_less holders ≡ holders - 1 = cond-false (holders == 2 ^ 64 - 1) holders (holders - 1)
          (ne_eqb holders (2 ^ 64 - 1) less) in
          (rw falls (omega arith), rw falls (omega arith))
    ]

module _ {T : Type 0} where
  -- the entry counts enough holders for some handles
  abbrev Serves : Option (Entry T) → ℕ → Type 0
  Serves at open_handles = IsSomeAnd at (λ entry. min open_handles (2 ^ 64 - 1) ≤ entry.holders)

  holders_of : (at : Option (Entry T)) (open_handles : ℕ) (entry : Entry T) → at ≡ Some entry → Serves at open_handles →
      min open_handles (2 ^ 64 - 1) ≤ entry.holders
  holders_of at open_handles entry is serves = subst (λ o. Serves o open_handles) is serves

  serves_by : (at : Option (Entry T)) (open_handles : ℕ) (entry : Entry T) → at ≡ Some entry →
      min open_handles (2 ^ 64 - 1) ≤ entry.holders → Serves at open_handles
  serves_by at open_handles entry is enough = subst (λ o. Serves o open_handles) (sym is) enough

  serves_at : (at now : Option (Entry T)) (before after_it : ℕ) → now ≡ at → after_it ≡ before → Serves at before →
      Serves now after_it
  serves_at at now before after_it same count serves = subst
      (λ n. Serves now n) (sym count) (subst (λ o. Serves o before) (sym same) serves)

  -- a change that keeps the holders
  serves_changed : (change : Entry T → Entry T) → ((entry : Entry T) → (change entry).holders ≡ entry.holders) →
      (at : Option (Entry T)) (open_handles : ℕ) → Serves at open_handles → Serves (option_map change at) open_handles
  serves_changed change keeps None open_handles serves = serves
  serves_changed change keeps (Some entry) open_handles serves = subst
      (λ n. min open_handles (2 ^ 64 - 1) ≤ n) (sym (keeps entry)) serves

  serves_opened : (at : Option (Entry T)) (open_handles : ℕ) → IsSome at → (0 < open_handles → Serves at open_handles) →
      Serves (option_map one_holder_more at) (1 + open_handles)
  serves_opened None open_handles there serves = absurd (true≢false (sym there))
  serves_opened (Some entry) open_handles there serves = one_more_serves open_handles entry.holders serves

  serves_held : (at : Option (Entry T)) (open_handles : ℕ) → 0 < open_handles → Serves at open_handles → if_held at ≡ at
  serves_held None open_handles some serves = absurd serves
  serves_held (Some entry) open_handles some serves = cond-false (entry.holders == 0) None (Some entry)
      (ne_eqb entry.holders 0 (λ none. omega arith))

  module _ (contents : Contents T) (open_handles : List ℕ) (serves : ServesHandles contents open_handles) where
    before : (id : ℕ) → 0 < open_on open_handles id → Serves (entry_of contents id) (open_on open_handles id)
    before id some = serves.entries id some

    -- nobody has a handle on an id that was never made
    none_yet : open_on open_handles (length contents.slots) ≡ 0
    none_yet =
        elim (cases_eq (open_on open_handles (length contents.slots)) 0) [
          | inl none ↦ none
          | inr some ↦
              let past : entry_of contents (length contents.slots) ≡ None =
              ap entry_in (get_or_past contents.slots (length contents.slots) Ended (omega arith)) in
              absurd (subst (λ o. Serves o (open_on open_handles (length contents.slots))) past
              (before (length contents.slots) (omega arith)))
        ]

    serves_creates : (path : List ℕ) (value : T) (version : ℕ) →
        ServesHandles (after_creation contents path value version) (length contents.slots ∷ open_handles)
    serves_creates path value version = record {
      entries = λ id some. elim (cases_eq id (length contents.slots)) [
        | inl same ↦
            let count : open_on (length contents.slots ∷ open_handles) id ≡ 1 =
            ap (open_on (length contents.slots ∷ open_handles)) same
            ∙ open_on-same open_handles (length contents.slots) ∙ ap (λ n. 1 + n) none_yet in
            let made = after_creation-MakesEntry contents path value version in
            serves_by (entry_of (after_creation contents path value version) id)
            (open_on (length contents.slots ∷ open_handles) id)
            (record { path = path; value = value; version = version; holders = 1 })
            (ap (entry_of (after_creation contents path value version)) same ∙ made.entry) (rw count (omega arith))
        | inr apart ↦
            let count : open_on (length contents.slots ∷ open_handles) id ≡ open_on open_handles id =
            open_on-other (length contents.slots) open_handles id apart in
            let made = after_creation-MakesEntry contents path value version in
            serves_at (entry_of contents id) _ (open_on open_handles id) _ (made.others.entries id apart) count
            (before id (omega (arith, some, count)))
      ];
    }

    serves_opens : (new : Contents T) (id : ℕ) → ChangesEntry contents new id one_holder_more →
        IsSome (entry_of contents id) → ServesHandles new (id ∷ open_handles)
    serves_opens new id changes there = record {
      entries = λ another some. elim (cases_eq another id) [
        | inl same ↦
            serves_at (option_map one_holder_more (entry_of contents id)) _ (1 + open_on open_handles id)
            _ (ap (entry_of new) same ∙ changes.entry)
            (ap (open_on (id ∷ open_handles)) same ∙ open_on-same open_handles id)
            (serves_opened (entry_of contents id) (open_on open_handles id) there (before id))
        | inr apart ↦
            let count : open_on (id ∷ open_handles) another ≡ open_on open_handles another =
            open_on-other id open_handles another apart in
            serves_at (entry_of contents another) _ (open_on open_handles another) _ (changes.others another apart)
            count (before another (omega (arith, some, count)))
      ];
    }

    serves_entry : (new : Contents T) (id : ℕ) (change : Entry T → Entry T) →
        ((entry : Entry T) → (change entry).holders ≡ entry.holders) → ChangesEntry contents new id change →
        ServesHandles new open_handles
    serves_entry new id change keeps changes = record {
      entries = λ another some. elim (cases_eq another id) [
        | inl same ↦
            serves_at (option_map change (entry_of contents another)) _ (open_on open_handles another)
            _ (subst (λ i. entry_of new i ≡ option_map change (entry_of contents i)) (sym same) changes.entry) refl
            (serves_changed change keeps (entry_of contents another) (open_on open_handles another)
            (before another some))
        | inr apart ↦ serves_at (entry_of contents another) _ (open_on open_handles another)
            _ (changes.others another apart) refl (before another some)
      ];
    }

    -- whether a path stands for an id
    stands : (path : List ℕ) (id : ℕ) → (id_at contents path ≡ Some id) ⊎ (id_at contents path ≢ Some id)
    stands path id =
        elim (cases_Bool (is_id (id_at contents path) id)) [
          | inl h ↦ inl (is_id-true (id_at contents path) id h)
          | inr h ↦ inr (λ at. true≢false (sym (is_id-same (id_at contents path) id at) ∙ h))
        ]

    serves_named : (new : Contents T) (path : List ℕ) (change : Entry T → Entry T) →
        ((entry : Entry T) → (change entry).holders ≡ entry.holders) → ChangesNamedEntry contents new path change →
        ServesHandles new open_handles
    serves_named new path change keeps changes = record {
      entries = λ id some. elim (stands path id) [
        | inl at ↦
            serves_at (option_map change (entry_of contents id)) _ (open_on open_handles id) _ (changes.entry id at)
            refl
            (serves_changed change keeps (entry_of contents id) (open_on open_handles id) (before id some))
        | inr apart ↦ serves_at (entry_of contents id) _ (open_on open_handles id) _ (changes.others id apart) refl
            (before id some)
      ];
    }

    serves_removes : (new : Contents T) (path : List ℕ) → TakesName contents new path → ServesHandles new open_handles
    serves_removes new path takes = record {
      entries = λ id some. elim (stands path id) [
        | inl at ↦ serves_at (entry_of contents id) _ (open_on open_handles id)
            _ (takes.entry id at ∙ serves_held (entry_of contents id) (open_on open_handles id) some (before id some))
            refl (before id some)
        | inr apart ↦ serves_at (entry_of contents id) _ (open_on open_handles id) _ (takes.other_entries id apart) refl
            (before id some)
      ];
    }

    serves_closes : (new : Contents T) (handle : Handle) (entry : Entry T) → entry_of contents handle.id ≡ Some entry →
        0 < open_on open_handles handle.id → LetsGo contents new handle entry →
        ServesHandles new (with_one_closed open_handles handle.id)
    serves_closes new handle entry is is_open goes = record {
      entries = λ another some. elim (cases_eq another handle.id) [
        | inl same ↦
            let left : 0 < open_on (with_one_closed open_handles handle.id) handle.id = subst
            (λ i. 0 < open_on (with_one_closed open_handles handle.id) i) same some in
            let enough : min (1 + open_on (with_one_closed open_handles handle.id) handle.id) (2 ^ 64 - 1) ≤
            entry.holders =
            subst (λ n. min n (2 ^ 64 - 1) ≤ entry.holders) (sym (after_close-same open_handles handle.id is_open))
            (holders_of (entry_of contents handle.id) (open_on open_handles handle.id) entry is
            (before handle.id is_open)) in
            let still = one_less_serves (open_on (with_one_closed open_handles handle.id) handle.id) entry.holders left
            enough in
            subst (λ i. Serves (entry_of new i) (open_on (with_one_closed open_handles handle.id) i)) (sym same)
            (serves_by (entry_of new handle.id) (open_on (with_one_closed open_handles handle.id) handle.id)
            (one_holder_less entry) (goes.stays (inl still.1)) still.0)
        | inr apart ↦
            let count : open_on (with_one_closed open_handles handle.id) another ≡ open_on open_handles another =
            after_close-other open_handles handle.id another apart in
            serves_at (entry_of contents another) _ (open_on open_handles another) _ (goes.others.entries another apart)
            count (before another (omega (arith, some, count)))
      ];
    }

    serves_withdraws : (new : Contents T) (id : ℕ) →
        ((another : ℕ) → another ≢ id → entry_of new another ≡ entry_of contents another) →
        ServesHandles new (filter (λ other. not (other == id)) open_handles)
    serves_withdraws new id others = record {
      entries = λ another some. elim (cases_eq another id) [
        | inl same ↦ absurd (omega
            (arith, some, ap (open_on (not_on id open_handles)) same ∙ void-same open_handles id))
        | inr apart ↦
            let count : open_on (not_on id open_handles) another ≡ open_on open_handles another =
            void-other open_handles id another apart in
            serves_at (entry_of contents another) _ (open_on open_handles another) _ (others another apart) count
            (before another (omega (arith, some, count)))
      ];
    }

    pub after-ServesHandles : (change : Change T) → IsSound contents → IsAllowed contents change →
        HasHandle contents open_handles change →
        ServesHandles (after contents change) (open_after contents open_handles change)
    after-ServesHandles (creates path value version) sound allowed own = serves_creates path value version
    after-ServesHandles (opens id) sound allowed own = serves_opens _ id (after_opening-ChangesEntry contents id) own
    after-ServesHandles (removes path) sound allowed own =
        serves_removes _ path (after_removal-TakesName contents sound path)
    after-ServesHandles (closes handle) sound allowed own =
        let at = has_entry contents handle allowed in
        serves_closes _ handle at.0 at.1 own (after_close-LetsGo contents sound handle at.0 at.1)
    after-ServesHandles (finishes id value version) sound allowed own =
        serves_entry _ id _ (λ entry. refl) (after_finish-ChangesEntry contents id value version)
    after-ServesHandles (withdraws handle) sound allowed own =
        let gone = after_withdrawal-Withdraws contents sound handle in serves_withdraws _ handle.id gone.others.entries
    after-ServesHandles (sets_value id value) sound allowed own =
        serves_entry _ id _ (λ entry. refl) (with_value-ChangesEntry contents id value)
    after-ServesHandles (sets_version path version) sound allowed own =
        serves_named _ path _ (λ entry. refl) (with_version-ChangesNamedEntry contents path version)

  pub nothing_registered-ServesHandles : ServesHandles {T = T} nothing_registered []
  nothing_registered-ServesHandles = record { entries = λ id some. absurd (omega arith) }

  pub after_all-ServesHandles : (contents : Contents T) (open_handles : List ℕ) (changes : List (Change T)) →
      IsSound contents → ServesHandles contents open_handles → IsRunOfHandles contents open_handles changes
      → ServesHandles (after_all contents changes) (open_after_all contents open_handles changes)
  after_all-ServesHandles contents open_handles [] sound serves run = serves
  after_all-ServesHandles contents open_handles (change ∷ changes) sound serves run =
      after_all-ServesHandles (after contents change) (open_after contents open_handles change) changes
      (after-IsSound contents change sound run.0)
      (after-ServesHandles contents open_handles serves change sound run.0 run.1) run.2

  -- a handle has its entry while one on the entry is open
  pub open-Has : (contents : Contents T) (open_handles : List ℕ) (changes : List (Change T)) (handle : Handle) →
      IsSound contents → ServesHandles contents open_handles → IsRunOfHandles contents open_handles changes →
      Has contents handle
      → 0 < open_on (open_after_all contents open_handles changes) handle.id → Has (after_all contents changes) handle
  open-Has contents open_handles changes handle sound serves run has is_open =
      from (entry_of (after_all contents changes) handle.id) refl (served.entries handle.id is_open)
    where
      served : ServesHandles (after_all contents changes) (open_after_all contents open_handles changes)
      served = after_all-ServesHandles contents open_handles changes sound serves run

      within : (handle.id < length contents.slots) ⊎ (length contents.slots ≤ handle.id) →
          handle.id < length contents.slots
      within (inl h) = h
      within (inr past) = absurd
          (subst (λ o. IsSomeAnd o (λ entry. entry.path ≡ handle.path))
          (ap entry_in (get_or_past contents.slots handle.id Ended past)) has)

      from : (at : Option (Entry T)) → entry_of (after_all contents changes) handle.id ≡ at →
          Serves at (open_on (open_after_all contents open_handles changes) handle.id) →
          Has (after_all contents changes) handle
      from None is h = absurd h
      from (Some entry) is h =
          let later = after_all-IsLater contents changes in
          let at = has_entry contents handle has in
          let old_path : at.0.path ≡ entry.path = subst
          (λ o. IsSomeAnd o (λ old. old.path ≡ entry.path)) at.1
          (later.same handle.id entry (within (cases_lt handle.id (length contents.slots))) is) in
          let its_path : at.0.path ≡ handle.path = subst (λ o. IsSomeAnd o (λ old. old.path ≡ handle.path)) at.1 has in
          subst (λ o. IsSomeAnd o (λ e. e.path ≡ handle.path)) (sym is) (sym old_path ∙ its_path)
