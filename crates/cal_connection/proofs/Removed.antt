-- A removal by force lets go of what it opened alone.
use Rattle.std.proofs.Common.{◌≡◌, ℕ, ◌-◌, ◌^◌, ◌<◌, ◌≤◌, List, Option, Some, None, IsSomeAnd, refl, sym, ap, subst, ◌∙◌, inl, inr, arith}
use Rattle.std.specs.Option.{option_map}
use Rattle.std.proofs.lemmas.Bool.{cases_eq}
use Rattle.cal_names.specs.ConceptSettings.{ConceptSettings, file_path_for}
use Rattle.cal_storage.specs.declared.entry.Entry.{Entry}
use Rattle.cal_storage.specs.declared.handle.Handle.{Handle}
use Rattle.cal_storage.specs.declared.dynamic_storage.errors.DynamicStorageOpenError.{DynamicStorageOpenError}
use Rattle.cal_storage.specs.declared.dynamic_storage.errors.DynamicStorageOpenError.TheVariants as opening
use Rattle.cal_storage.specs.Contents.{Contents, Has, one_more, one_less, id_at, entry_of, found_handle, after_opening, after_close}
use Rattle.cal_storage.specs.ContentsLaws.{one_holder_more}
use Rattle.cal_storage.specs.EntryLemmas.{after_opening-ChangesEntry, after_close-LetsGo}
use Rattle.cal_storage.specs.HandleLemmas.{has_entry}
use Rattle.cal_storage.specs.Holding.{Holds, KeepsHandles}
use Rattle.cal_storage.specs.HoldingLemmas.{Holds-found, KeepsHandles-same, KeepsHandles-after_opening, KeepsHandles-after_name_removal, KeepsOtherHandles-after_close}
use Rattle.cal_storage.specs.Soundness.{IsSound}
use Rattle.cal_storage.specs.SoundnessLemmas.{after_opening-IsSound, with_value-IsSound}
use Rattle.cal_storage.specs.ValueLemmas.{entry_of-with_value-same}
use Rattle.cal_connection.specs.Closing.{after_forced_removal, after_removal_at, after_removal_by, leaving_handle, with_closed_channels, without_bit}
use Rattle.cal_connection.specs.Port.{PortEntry, port_at, with_port}
use Rattle.cal_connection.specs.RegistryLemmas.{Has-with_port, Holds-with_port}

-- one holder more, and then one less
as_many : (count holders : ℕ) → count ≤ holders → count < 2 ^ 64 → count ≤ one_less (one_more holders)
as_many count holders enough small = elim (cases_eq (one_more holders) (2 ^ 64 - 1)) [
  | inl same ↦ grind arith
  | inr apart ↦ grind arith
]

module _ (contents : Contents PortEntry) (sound : IsSound contents) (path : List ℕ) (id bit : ℕ)
    (at : id_at contents path ≡ Some id) where
  abbrev opened : Contents PortEntry
  opened = after_opening contents id

  abbrev handle : Handle
  handle = found_handle path id

  abbrev closed : Contents PortEntry
  closed = with_port opened handle (with_closed_channels (port_at opened handle))

  abbrev left : Contents PortEntry
  left = with_port closed handle (without_bit (port_at closed handle) bit)

  abbrev closing : Handle
  closing = leaving_handle closed handle bit

  left_sound : IsSound left
  left_sound =
      with_value-IsSound closed (with_value-IsSound opened (after_opening-IsSound contents sound id) id _) id _

  has_left : Has left closing
  has_left =
      let found = Holds-found contents sound path id at in
      Has-with_port closed handle _ handle (Has-with_port opened handle _ handle found.0)

  -- the entry before the close
  entry_left : (entry : Entry PortEntry) → entry_of contents id ≡ Some entry →
      entry_of left id ≡ Some (record (one_holder_more entry) {
        value = without_bit (port_at closed handle) bit;
      })
  entry_left entry is =
      let adds = after_opening-ChangesEntry contents id in
      let first : entry_of opened id ≡ Some (one_holder_more entry) =
      adds.entry ∙ ap (option_map {T = Entry PortEntry} one_holder_more) is in
      entry_of-with_value-same closed id (without_bit (port_at closed handle) bit)
      ∙ ap (option_map (λ (e : Entry PortEntry). record e { value = without_bit (port_at closed handle) bit }))
      (entry_of-with_value-same opened id (with_closed_channels (port_at opened handle))
      ∙ ap (option_map (λ (e : Entry PortEntry). record e { value = with_closed_channels (port_at opened handle) }))
      first)

  keeps_same : (count : ℕ) (other : Handle) → 0 < count → count < 2 ^ 64 → other.id ≡ id →
      Holds contents count other → Holds (after_close left closing) count other
  keeps_same count other some small same holds =
      let found = has_entry contents other holds.0 in
      let there : entry_of contents id ≡ Some found.0 = ap (entry_of contents) (sym same) ∙ found.1 in
      let many : count ≤ found.0.holders =
      subst (λ o. IsSomeAnd o (λ (entry : Entry PortEntry). count ≤ entry.holders)) found.1 holds.1 in
      let under : found.0.path ≡ other.path =
      subst (λ o. IsSomeAnd o (λ (entry : Entry PortEntry). entry.path ≡ other.path)) found.1 holds.0 in
      let enough : count ≤ one_less (one_more found.0.holders) = as_many count found.0.holders many small in
      let gone = after_close-LetsGo left left_sound closing _ (entry_left found.0 there) in
      let stays = ap (entry_of (after_close left closing)) same ∙ gone.stays (inl (omega arith)) in (
        subst (λ o. IsSomeAnd o (λ (entry : Entry PortEntry). entry.path ≡ other.path)) (sym stays) under,
        subst (λ o. IsSomeAnd o (λ (entry : Entry PortEntry). count ≤ entry.holders)) (sym stays) enough,
      )

  keeps_at : KeepsHandles contents (after_removal_by opened handle bit)
  keeps_at count other some small holds = elim (cases_eq other.id id) [
    | inl same ↦ keeps_same count other some small same holds
    | inr apart ↦
        KeepsOtherHandles-after_close left left_sound closing has_left count other apart
        (Holds-with_port closed handle _ count other (Holds-with_port opened handle _ count other
        (KeepsHandles-after_opening contents id count other some small holds)))
  ]

module _ (contents : Contents PortEntry) (sound : IsSound contents) where
  keeps_found : (path : List ℕ) (bit : ℕ) (at : Option ℕ) → id_at contents path ≡ at →
      KeepsHandles contents (after_removal_at contents path bit at)
  keeps_found path bit None is = KeepsHandles-same contents
  keeps_found path bit (Some id) is = keeps_at contents sound path id bit is

  keeps_after : (refusal : Option DynamicStorageOpenError) (settings : ConceptSettings) (name : List ℕ) (bit : ℕ) →
      KeepsHandles contents (after_forced_removal refusal contents settings name bit)
  keeps_after None settings name bit =
      keeps_found (file_path_for settings name) bit (id_at contents (file_path_for settings name)) refl
  keeps_after (Some opening.InitializationNotYetFinalized) settings name bit =
      KeepsHandles-after_name_removal contents sound settings name
  keeps_after (Some opening.VersionMismatch) settings name bit = KeepsHandles-same contents
  keeps_after (Some opening.DoesNotExist) settings name bit = KeepsHandles-same contents
  keeps_after (Some opening.PathTooLong) settings name bit = KeepsHandles-same contents
  keeps_after (Some opening.InternalError) settings name bit = KeepsHandles-same contents

-- each open handle has what it had
pub keeps_handles : (old new : Contents PortEntry) (refusal : Option DynamicStorageOpenError)
    (settings : ConceptSettings) (name : List ℕ) (bit : ℕ) → IsSound old →
    new ≡ after_forced_removal refusal old settings name bit → KeepsHandles old new
keeps_handles old new refusal settings name bit sound is =
    subst (KeepsHandles old) (sym is) (keeps_after old sound refusal settings name bit)
