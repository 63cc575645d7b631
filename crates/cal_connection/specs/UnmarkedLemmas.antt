-- No call lets a path stand for a marked entry, where none did before.
use Rattle.std.proofs.Common.{◌≡◌, ◌≢◌, ℕ, ◌-◌, ◌≤◌, ◌==◌, not, Bool, true, false, List, length, Option, Some, None, if◌then◌else◌, option_map, option_and_then, refl, sym, ap, subst, ◌∙◌, inl, inr, arith}
use Rattle.std.specs.Map.{lookup}
use Rattle.std.specs.Option.{unwrap_or}
use Rattle.std.proofs.Math.Bool.{beq}
use Rattle.std.proofs.lemmas.Bool.{cases_Bool, cases_eq, false≢true}
use Rattle.std.proofs.lemmas.Bool.Decides.{nat_tests}
use Rattle.std.proofs.lemmas.Option.{none-some, same_Some}
use Rattle.cal_names.specs.ConceptSettings.{ConceptSettings, file_path_for}
use Rattle.cal_storage.specs.declared.entry.Entry.{Entry}
use Rattle.cal_storage.specs.declared.handle.Handle.{Handle}
use Rattle.cal_storage.specs.declared.dynamic_storage.errors.DynamicStorageOpenError.{DynamicStorageOpenError}
use Rattle.cal_storage.specs.declared.dynamic_storage.errors.DynamicStorageOpenError.TheVariants as opening
use Rattle.cal_storage.specs.Contents.{Contents, Has, is_path, id_at, entry_of, value_at, after_opening, after_close, after_removal, found_handle, nothing_registered}
use Rattle.cal_storage.specs.ContentsLaws.{ChangesEntry, MakesEntry, LetsGo, TakesName, one_holder_more, one_holder_less}
use Rattle.cal_storage.specs.EntryLemmas.{after_opening-ChangesEntry, with_value-ChangesEntry, after_creation-MakesEntry, after_close-LetsGo, after_removal-TakesName}
use Rattle.cal_storage.specs.HandleLemmas.{has_entry}
use Rattle.cal_storage.specs.HoldingLemmas.{Holds-found}
use Rattle.cal_storage.specs.NameLemmas.{cases_path, is_path-same}
use Rattle.cal_storage.specs.Refusals.{finished_version, is_too_long, after_name_removal}
use Rattle.cal_storage.specs.Soundness.{IsSound}
use Rattle.cal_storage.specs.SoundnessLemmas.{after_opening-IsSound, with_value-IsSound, handle_path, one_path}
use Rattle.cal_storage.specs.ValueLemmas.{entry_of-with_value-other, entry_of-after_close-other}
use Rattle.cal_connection.specs.declared.settings.ConnectionSettings.{ConnectionSettings}
use Rattle.cal_connection.specs.declared.errors.ZeroCopyCreationError.TheVariants.{AnotherInstanceIsAlreadyConnected, IsBeingCleanedUp, IncompatibleBufferSize, IncompatibleMaxBorrowedSamplesPerChannelSetting, IncompatibleOverflowSetting, IncompatibleNumberOfSamples, IncompatibleNumberOfSegments, IncompatibleNumberOfChannels}
use Rattle.cal_connection.specs.Closing.{after_end, after_forced_removal, after_removal_at, leaving_handle, with_closed_channels, without_bit}
use Rattle.cal_connection.specs.Creation.{join_refusal, found_refusal, with_bit, after_joining, after_making, after_connecting, after_connecting_at}
use Rattle.cal_connection.specs.Plan.{ConnectionPlan, path_of}
use Rattle.cal_connection.specs.Port.{PortEntry, no_port, new_port, port_at, with_port}
use Rattle.cal_connection.specs.RegistryLemmas.{Has-with_port, port_at-with_port-same}
use Rattle.cal_connection.specs.Settings.{completion_size, incompatibility}
use Rattle.cal_connection.specs.Unmarked.{IsUnmarked, NamesAreUnmarked}
use Rattle.cal_connection.specs.Words.{IsPortWord, IsPortBit, has_bit, mark, leaves_mark}

-- ---- words

unmarked_word : (word : ℕ) → IsPortWord word → has_bit word mark ≡ false → word ≤ 3
unmarked_word word (inl small) unmarked = small
unmarked_word word (inr marked) unmarked =
    absurd (false≢true (sym (subst (λ w. has_bit w mark ≡ false) marked unmarked)))

small_word : (word : ℕ) → word ≤ 3 → IsPortWord word × (has_bit word mark ≡ false)
small_word word small = (inl small, grind (arith, nat_tests))

unmarked_by_word : (port other : PortEntry) → port.word ≡ other.word → IsUnmarked port → IsUnmarked other
unmarked_by_word port other same is = record {
  word = subst IsPortWord same is.word;
  unmarked = subst (λ word. has_bit word mark ≡ false) same is.unmarked;
}

from_small : (port : PortEntry) → port.word ≤ 3 → IsUnmarked port
from_small port small =
    let both = small_word port.word small in record { word = both.0; unmarked = both.1 }

IsUnmarked-with_bit : (port : PortEntry) (bit : ℕ) → IsPortBit bit → has_bit port.word bit ≡ false →
    IsUnmarked port → IsUnmarked (with_bit port bit)
IsUnmarked-with_bit port bit (inl first) absent is =
    let small : port.word ≤ 3 = unmarked_word port.word is.word is.unmarked in
    let none : has_bit port.word 1 ≡ false = subst (λ b. has_bit port.word b ≡ false) first absent in
    from_small (with_bit port bit) (grind (arith, nat_tests))
IsUnmarked-with_bit port bit (inr second) absent is =
    let small : port.word ≤ 3 = unmarked_word port.word is.word is.unmarked in
    let none : has_bit port.word 2 ≡ false = subst (λ b. has_bit port.word b ≡ false) second absent in
    from_small (with_bit port bit) (grind (arith, nat_tests))

left_word : (word bit : ℕ) (leaves has : Bool) → leaves ≡ false → word ≤ 3 →
    (if leaves then mark else if has then word - bit else word) ≤ 3
left_word word bit true has is small = absurd (false≢true (sym is))
left_word word bit false true is small = omega arith
left_word word bit false false is small = small

IsUnmarked-without_bit : (port : PortEntry) (bit : ℕ) → leaves_mark port.word bit ≡ false → IsUnmarked port →
    IsUnmarked (without_bit port bit)
IsUnmarked-without_bit port bit stays is =
    from_small (without_bit port bit)
    (left_word port.word bit (leaves_mark port.word bit) (has_bit port.word bit) stays
    (unmarked_word port.word is.word is.unmarked))

IsUnmarked-new : (settings : ConnectionSettings) (bit state : ℕ) → IsPortBit bit →
    IsUnmarked (new_port settings bit state)
IsUnmarked-new settings bit state (inl first) = from_small (new_port settings bit state) (omega arith)
IsUnmarked-new settings bit state (inr second) = from_small (new_port settings bit state) (omega arith)

-- ---- registries by their names and entries

module _ (contents : Contents PortEntry) where
  -- each entry for which a path stands
  abbrev EachIsUnmarked : Type 0
  EachIsUnmarked = (path : List ℕ) (id : ℕ) (entry : Entry PortEntry) → id_at contents path ≡ Some id →
      entry_of contents id ≡ Some entry → IsUnmarked entry.value

  from_each : EachIsUnmarked → NamesAreUnmarked contents
  from_each each = record { unmarked = λ path port is. from path port (id_at contents path) refl is }
    where
      here : (path : List ℕ) (port : PortEntry) (id : ℕ) → id_at contents path ≡ Some id →
          (found : Option (Entry PortEntry)) → entry_of contents id ≡ found →
          option_map (λ (entry : Entry PortEntry). entry.value) found ≡ Some port → IsUnmarked port
      here path port id named None at is = absurd (none-some port is)
      here path port id named (Some entry) at is =
          subst IsUnmarked (same_Some entry.value port is) (each path id entry named at)

      from : (path : List ℕ) (port : PortEntry) (named : Option ℕ) → id_at contents path ≡ named →
          option_map (λ (entry : Entry PortEntry). entry.value) (option_and_then (entry_of contents) named)
          ≡ Some port → IsUnmarked port
      from path port None named is = absurd (none-some port is)
      from path port (Some id) named is = here path port id named (entry_of contents id) refl is

  each_from : NamesAreUnmarked contents → EachIsUnmarked
  each_from names path id entry named at =
      names.unmarked path entry.value
      (ap (λ found. option_map (λ (e : Entry PortEntry). e.value) (option_and_then (entry_of contents) found)) named
      ∙ ap (option_map (λ (e : Entry PortEntry). e.value)) at)

  port_at-entry : (handle : Handle) (entry : Entry PortEntry) → entry_of contents handle.id ≡ Some entry →
      port_at contents handle ≡ entry.value
  port_at-entry handle entry at =
      ap (λ found. unwrap_or (option_map (λ (e : Entry PortEntry). e.value) found) no_port) at

-- a new registry
pub NamesAreUnmarked-new : NamesAreUnmarked nothing_registered
NamesAreUnmarked-new = record { unmarked = λ path port is. absurd (none-some port is) }

-- where one entry changes, and stays unmarked
changed : (old new : Contents PortEntry) (id : ℕ) (change : Entry PortEntry → Entry PortEntry) →
    ChangesEntry old new id change →
    ((entry : Entry PortEntry) → entry_of old id ≡ Some entry → IsUnmarked entry.value →
    IsUnmarked (change entry).value) → NamesAreUnmarked old → NamesAreUnmarked new
changed old new id change changes keeps names = from_each new each
  where
    here : (path : List ℕ) (entry : Entry PortEntry) → id_at old path ≡ Some id →
        (found : Option (Entry PortEntry)) → entry_of old id ≡ found → option_map change found ≡ Some entry →
        IsUnmarked entry.value
    here path entry named None at is = absurd (none-some entry is)
    here path entry named (Some before) at is =
        subst (λ (e : Entry PortEntry). IsUnmarked e.value) (same_Some (change before) entry is)
        (keeps before at (each_from old names path id before named at))

    each : EachIsUnmarked new
    each path other entry named at =
        let before : id_at old path ≡ Some other =
        subst (λ (ns : List (List ℕ × ℕ)). lookup (is_path path) ns ≡ Some other) changes.names named in
        elim (cases_eq other id) [
          | inl same ↦
              here path entry (before ∙ ap Some same) (entry_of old id) refl
              (sym changes.entry ∙ ap (entry_of new) (sym same) ∙ at)
          | inr apart ↦ each_from old names path other entry before (sym (changes.others other apart) ∙ at)
        ]

module _ (contents : Contents PortEntry) where
  pub NamesAreUnmarked-after_opening : (id : ℕ) → NamesAreUnmarked contents →
      NamesAreUnmarked (after_opening contents id)
  NamesAreUnmarked-after_opening id =
      changed contents (after_opening contents id) id one_holder_more (after_opening-ChangesEntry contents id)
      (λ entry at is. is)

  -- an entry is written whose port word stays
  pub NamesAreUnmarked-with_port : (handle : Handle) (port : PortEntry) →
      port.word ≡ (port_at contents handle).word → NamesAreUnmarked contents →
      NamesAreUnmarked (with_port contents handle port)
  NamesAreUnmarked-with_port handle port same =
      changed contents (with_port contents handle port) handle.id (λ entry. record entry { value = port })
      (with_value-ChangesEntry contents handle.id port)
      (λ entry at is. unmarked_by_word entry.value port
      (sym (same ∙ ap (λ (p : PortEntry). p.word) (port_at-entry contents handle entry at))) is)

-- ---- creation

join_refusal-absent : (port : PortEntry) (asked : ConnectionSettings) (bit : ℕ) → join_refusal port asked bit ≡ None →
    has_bit port.word bit ≡ false
join_refusal-absent port asked bit none = from (has_bit port.word bit) none
  where
    from : (has : Bool) → (if has then Some AnotherInstanceIsAlreadyConnected
        else if has_bit port.word mark then Some IsBeingCleanedUp else incompatibility port.settings asked) ≡ None →
        has ≡ false
    from true is = absurd (none-some AnotherInstanceIsAlreadyConnected (sym is))
    from false is = refl

no_difference : (found asked : ConnectionSettings) → incompatibility found asked ≢ Some IsBeingCleanedUp
no_difference found asked =
    by_tests (not (found.buffer_size == asked.buffer_size)) (not (completion_size found == completion_size asked))
    (not (beq found.enable_safe_overflow asked.enable_safe_overflow))
    (not (found.number_of_samples == asked.number_of_samples))
    (not (found.number_of_segments == asked.number_of_segments))
    (not (found.number_of_channels == asked.number_of_channels))
  where
    by_tests : (a b c d e f : Bool) → (if a then Some IncompatibleBufferSize
        else if b then Some IncompatibleMaxBorrowedSamplesPerChannelSetting
        else if c then Some IncompatibleOverflowSetting
        else if d then Some IncompatibleNumberOfSamples
        else if e then Some IncompatibleNumberOfSegments
        else if f then Some IncompatibleNumberOfChannels
        else None) ≢ Some IsBeingCleanedUp
    by_tests true b c d e f is = cc
    by_tests false true c d e f is = cc
    by_tests false false true d e f is = cc
    by_tests false false false true e f is = cc
    by_tests false false false false true f is = cc
    by_tests false false false false false true is = cc
    by_tests false false false false false false is = cc

module _ (contents : Contents PortEntry) (plan : ConnectionPlan) (bit : ℕ) (is_bit : IsPortBit bit)
    (names : NamesAreUnmarked contents) where
  made : NamesAreUnmarked (after_making contents plan bit)
  made = from_each new each
    where
      new : Contents PortEntry
      new = after_making contents plan bit

      port : PortEntry
      port = new_port plan.options.settings bit plan.options.initial_state

      makes : MakesEntry contents new (path_of plan) port finished_version
      makes = after_creation-MakesEntry contents (path_of plan) port finished_version

      before : (path : List ℕ) (id : ℕ) → id ≢ length contents.slots → id_at new path ≡ Some id →
          id_at contents path ≡ Some id
      before path id apart named = elim (cases_path path (path_of plan)) [
        | inl same ↦
            absurd (apart (same_Some id (length contents.slots)
            (sym named ∙ ap (id_at new) same ∙ makes.name)))
        | inr other ↦
            let leaves = makes.others in
            sym (leaves.names path (λ same. false≢true (sym other ∙ ap (is_path path) (sym same) ∙ is_path-same path)))
            ∙ named
      ]

      each : EachIsUnmarked new
      each path id entry named at = elim (cases_eq id (length contents.slots)) [
        | inl same ↦
            subst (λ (e : Entry PortEntry). IsUnmarked e.value)
            (same_Some _ entry (sym makes.entry ∙ ap (entry_of new) (sym same) ∙ at))
            (IsUnmarked-new plan.options.settings bit plan.options.initial_state is_bit)
        | inr apart ↦
            let leaves = makes.others in
            each_from contents names path id entry (before path id apart named)
            (sym (leaves.entries id apart) ∙ at)
      ]

  joined : (id : ℕ) → id_at contents (path_of plan) ≡ Some id → found_refusal contents plan bit ≡ None →
      NamesAreUnmarked (after_joining contents (found_handle (path_of plan) id) bit)
  joined id named none =
      changed opened (with_port opened handle (with_bit (port_at opened handle) bit)) id
      (λ entry. record entry { value = with_bit (port_at opened handle) bit })
      (with_value-ChangesEntry opened id (with_bit (port_at opened handle) bit))
      keeps
      (NamesAreUnmarked-after_opening contents id names)
    where
      opened : Contents PortEntry
      opened = after_opening contents id

      handle : Handle
      handle = found_handle (path_of plan) id

      -- the value before the opening
      value_before : (entry : Entry PortEntry) → entry_of opened id ≡ Some entry →
          (found : Option (Entry PortEntry)) → entry_of contents id ≡ found →
          option_map one_holder_more found ≡ Some entry → value_at contents (path_of plan) ≡ Some entry.value
      value_before entry at None before is = absurd (none-some entry is)
      value_before entry at (Some first) before is =
          ap (λ found. option_map (λ (e : Entry PortEntry). e.value) (option_and_then (entry_of contents) found)) named
          ∙ ap (option_map (λ (e : Entry PortEntry). e.value)) before
          ∙ ap (λ (e : Entry PortEntry). Some e.value) (same_Some (one_holder_more first) entry is)

      keeps : (entry : Entry PortEntry) → entry_of opened id ≡ Some entry → IsUnmarked entry.value →
          IsUnmarked (with_bit (port_at opened handle) bit)
      keeps entry at is =
          let adds = after_opening-ChangesEntry contents id in
          let value : value_at contents (path_of plan) ≡ Some entry.value =
          value_before entry at (entry_of contents id) refl (sym adds.entry ∙ at) in
          let refusal : join_refusal entry.value plan.options.settings bit ≡ None =
          sym (ap (option_and_then (λ port. join_refusal port plan.options.settings bit)) value) ∙ none in
          subst (λ (p : PortEntry). IsUnmarked (with_bit p bit)) (sym (port_at-entry opened handle entry at))
          (IsUnmarked-with_bit entry.value bit is_bit (join_refusal-absent entry.value _ bit refusal) is)

  connected : (at : Option ℕ) → id_at contents (path_of plan) ≡ at → found_refusal contents plan bit ≡ None →
      NamesAreUnmarked (after_connecting_at contents plan bit at)
  connected None named none = made
  connected (Some id) named none = joined id named none

  pub NamesAreUnmarked-after_connecting : found_refusal contents plan bit ≡ None →
      NamesAreUnmarked (after_connecting contents plan bit)
  NamesAreUnmarked-after_connecting none = connected (id_at contents (path_of plan)) refl none

module _ (contents : Contents PortEntry) (plan : ConnectionPlan) (bit : ℕ) (names : NamesAreUnmarked contents) where
  -- so no port is refused because of a mark
  pub found_refusal-unmarked : found_refusal contents plan bit ≢ Some IsBeingCleanedUp
  found_refusal-unmarked is = from (value_at contents (path_of plan)) refl is
    where
      by_tests : (port : PortEntry) (has marked : Bool) → marked ≡ false →
          (if has then Some AnotherInstanceIsAlreadyConnected
          else if marked then Some IsBeingCleanedUp else incompatibility port.settings plan.options.settings)
          ≡ Some IsBeingCleanedUp → ⊥
      by_tests port true marked un is = absurd (cc)
      by_tests port false true un is = absurd (false≢true (sym un))
      by_tests port false false un is = no_difference port.settings plan.options.settings is

      from : (at : Option PortEntry) → value_at contents (path_of plan) ≡ at →
          option_and_then (λ port. join_refusal port plan.options.settings bit) at ≡ Some IsBeingCleanedUp → ⊥
      from None found is = none-some IsBeingCleanedUp is
      from (Some port) found is =
          let unmarked = names.unmarked (path_of plan) port found in
          by_tests port (has_bit port.word bit) (has_bit port.word mark) unmarked.unmarked is

-- ---- ends

module _ (contents : Contents PortEntry) (sound : IsSound contents) (handle : Handle) (has : Has contents handle)
    (bit : ℕ) (names : NamesAreUnmarked contents) where
  abbrev port : PortEntry
  port = port_at contents handle

  abbrev left : Contents PortEntry
  left = with_port contents handle (without_bit port bit)

  abbrev closing : Handle
  closing = leaving_handle contents handle bit

  abbrev new : Contents PortEntry
  new = after_close left closing

  left_sound : IsSound left
  left_sound = with_value-IsSound contents sound handle.id (without_bit port bit)

  has_left : Has left closing
  has_left = Has-with_port contents handle (without_bit port bit) handle has

  abbrev found_left : (entry : Entry PortEntry) × (entry_of left closing.id ≡ Some entry)
  found_left = has_entry left closing has_left

  goes : LetsGo left new closing found_left.0
  goes = after_close-LetsGo left left_sound closing found_left.0 found_left.1

  -- a name that still stands for an entry stood for it before
  stood : (id : ℕ) → id_at new handle.path ≡ Some id → id_at contents handle.path ≡ Some id
  stood id named = elim (cases_Bool (leaves_mark port.word bit)) [
    | inl last ↦
        let gone = λ (at : id_at left handle.path ≡ Some handle.id).
        goes.name.gone last at in
        sym (goes.name.stays (inr (λ at. none-some id (sym (gone at) ∙ named)))) ∙ named
    | inr stays ↦ sym (goes.name.stays (inl stays)) ∙ named
  ]

  named_before : (path : List ℕ) (id : ℕ) → id_at new path ≡ Some id → id_at contents path ≡ Some id
  named_before path id named = elim (cases_path path handle.path) [
    | inl same ↦
        subst (λ p. id_at contents p ≡ Some id) (sym same)
        (stood id (subst (λ p. id_at new p ≡ Some id) same named))
    | inr other ↦
        let others = goes.others in
        sym (others.names path (λ same. false≢true (sym other ∙ ap (is_path path) (sym same) ∙ is_path-same path)))
        ∙ named
  ]

  -- the last port takes the name with it, so a name is left only where it wasn't the last
  not_last : id_at new handle.path ≡ Some handle.id → leaves_mark port.word bit ≡ false
  not_last named = elim (cases_Bool (leaves_mark port.word bit)) [
    | inl last ↦
        absurd (none-some handle.id
        (sym (goes.name.gone last (stood handle.id named)) ∙ named))
    | inr stays ↦ stays
  ]

  own : (entry : Entry PortEntry) → id_at new handle.path ≡ Some handle.id → entry_of new handle.id ≡ Some entry →
      IsUnmarked entry.value
  own entry named at =
      let first = has_entry contents handle has in
      let value : port ≡ first.0.value = port_at-entry contents handle first.0 first.1 in
      let is : IsUnmarked port =
      subst IsUnmarked (sym value)
      (each_from contents names handle.path handle.id first.0 (stood handle.id named) first.1) in
      let written : port_at left handle ≡ without_bit port bit =
      port_at-with_port-same contents handle (without_bit port bit) has in
      let before : without_bit port bit ≡ found_left.0.value =
      sym written ∙ port_at-entry left handle found_left.0 found_left.1 in
      let stays = goes.stays (inr named) in
      subst IsUnmarked (before ∙ ap (λ (e : Entry PortEntry). e.value)
      (same_Some (one_holder_less found_left.0) entry (sym stays ∙ at)))
      (IsUnmarked-without_bit port bit (not_last named) is)

  each_left : EachIsUnmarked new
  each_left path id entry named at = elim (cases_eq id handle.id) [
    | inl same ↦
        let before : id_at contents path ≡ Some handle.id = named_before path id named ∙ ap Some same in
        let there : path ≡ handle.path = handle_path contents sound handle path has before in
        own entry (subst (λ p. id_at new p ≡ Some handle.id) there (named ∙ ap Some same))
        (ap (entry_of new) (sym same) ∙ at)
    | inr apart ↦
        each_from contents names path id entry (named_before path id named)
        (sym (entry_of-with_value-other contents handle.id (without_bit port bit) id apart)
        ∙ sym (entry_of-after_close-other left closing id apart) ∙ at)
  ]

  pub NamesAreUnmarked-after_end : NamesAreUnmarked (after_end contents handle bit)
  NamesAreUnmarked-after_end = from_each new each_left

-- ---- removals

module _ (contents : Contents PortEntry) (sound : IsSound contents) (names : NamesAreUnmarked contents) where
  pub NamesAreUnmarked-after_removal : (path : List ℕ) → NamesAreUnmarked (after_removal contents path)
  NamesAreUnmarked-after_removal path = from_each new each
    where
      new : Contents PortEntry
      new = after_removal contents path

      takes : TakesName contents new path
      takes = after_removal-TakesName contents sound path

      each : EachIsUnmarked new
      each other id entry named at = elim (cases_path other path) [
        | inl same ↦
            absurd (none-some id (sym takes.name ∙ subst (λ p. id_at new p ≡ Some id) same named))
        | inr apart ↦
            let distinct : other ≢ path =
            λ same. false≢true (sym apart ∙ ap (is_path other) (sym same) ∙ is_path-same other) in
            let before : id_at contents other ≡ Some id = sym (takes.other_names other distinct) ∙ named in
            each_from contents names other id entry before
            (sym (takes.other_entries id (λ stands. distinct (one_path contents sound id other path before stands)))
            ∙ at)
      ]

  pub NamesAreUnmarked-after_name_removal : (settings : ConceptSettings) (name : List ℕ) →
      NamesAreUnmarked (after_name_removal settings name contents)
  NamesAreUnmarked-after_name_removal settings name =
      elim (is_too_long settings name)
      as (λ long. NamesAreUnmarked (if long then contents else after_removal contents (file_path_for settings name))) [
        | true ↦ names
        | false ↦ NamesAreUnmarked-after_removal (file_path_for settings name)
      ]

  removed_at : (path : List ℕ) (bit : ℕ) (at : Option ℕ) → id_at contents path ≡ at →
      NamesAreUnmarked (after_removal_at contents path bit at)
  removed_at path bit None is = names
  removed_at path bit (Some id) is =
      NamesAreUnmarked-after_end closed closed_sound handle has_closed bit
      (NamesAreUnmarked-with_port opened handle (with_closed_channels (port_at opened handle)) refl
      (NamesAreUnmarked-after_opening contents id names))
    where
      opened : Contents PortEntry
      opened = after_opening contents id

      handle : Handle
      handle = found_handle path id

      closed : Contents PortEntry
      closed = with_port opened handle (with_closed_channels (port_at opened handle))

      closed_sound : IsSound closed
      closed_sound = with_value-IsSound opened (after_opening-IsSound contents sound id) id _

      has_closed : Has closed handle
      has_closed =
          let found = Holds-found contents sound path id is in Has-with_port opened handle _ handle found.0

  pub NamesAreUnmarked-after_forced_removal :
      (refusal : Option DynamicStorageOpenError) (settings : ConceptSettings) (name : List ℕ) (bit : ℕ) →
      NamesAreUnmarked (after_forced_removal refusal contents settings name bit)
  NamesAreUnmarked-after_forced_removal None settings name bit =
      removed_at (file_path_for settings name) bit (id_at contents (file_path_for settings name)) refl
  NamesAreUnmarked-after_forced_removal (Some opening.InitializationNotYetFinalized) settings name bit =
      NamesAreUnmarked-after_name_removal settings name
  NamesAreUnmarked-after_forced_removal (Some opening.VersionMismatch) settings name bit = names
  NamesAreUnmarked-after_forced_removal (Some opening.DoesNotExist) settings name bit = names
  NamesAreUnmarked-after_forced_removal (Some opening.PathTooLong) settings name bit = names
  NamesAreUnmarked-after_forced_removal (Some opening.InternalError) settings name bit = names
