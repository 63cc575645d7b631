-- How the entry of a handle is read and written in a registry.
use Rattle.std.specs.Prelude.{◌≡◌, ◌≢◌, ℕ, ◌+◌, ◌≤◌, Option, Some, None, IsSomeAnd}
use Rattle.std.specs.Option.{unwrap_or, option_map}
use Rattle.std.proofs.Common.{refl, sym, ap, ◌∙◌, subst, inl, inr}
use Rattle.std.proofs.lemmas.Bool.{cases_eq}
use Rattle.std.proofs.lemmas.List.{set-get_or}
use Rattle.cal_storage.specs.declared.handle.Handle.{Handle}
use Rattle.cal_storage.specs.declared.entry.Entry.{Entry}
use Rattle.cal_storage.specs.Contents.{Contents, Has, entry_of, value_of}
use Rattle.cal_storage.specs.Holding.{Holds, KeepsHandles, KeepsOtherHandles, LeavesSharers}
use Rattle.cal_storage.specs.HoldingLemmas.{KeepsHandles-with_value}
use Rattle.cal_storage.specs.ValueLemmas.{entry_of-with_value-same, entry_of-with_value-other, value_of-with_value-same, value_of-with_value-other, Has-with_value, with_value-present, with_value-twice}
use Rattle.cal_connection.specs.Port.{PortEntry, no_port, no_channel, port_at, with_port, channel_of, with_channel_of}

module _ (contents : Contents PortEntry) (handle : Handle) where
  pub port_at-value : (port : PortEntry) → Some port ≡ value_of contents handle.id → port ≡ port_at contents handle
  port_at-value port is = ap (λ (o : Option PortEntry). unwrap_or o no_port) is

  there : (at : Option (Entry PortEntry)) (P : Entry PortEntry → Type 0) → IsSomeAnd at P →
      option_map (λ (entry : Entry PortEntry). entry.value) at
      ≡ Some (unwrap_or (option_map (λ (entry : Entry PortEntry). entry.value) at) no_port)
  there None P is = absurd is
  there (Some entry) P is = refl

  -- the entry that a registry has is its value
  pub value_of-port_at : Has contents handle → value_of contents handle.id ≡ Some (port_at contents handle)
  value_of-port_at has = there (entry_of contents handle.id) (λ entry. entry.path ≡ handle.path) has

  -- what was written is read
  pub port_at-with_port-same : (port : PortEntry) → Has contents handle →
      port_at (with_port contents handle port) handle ≡ port
  port_at-with_port-same port has =
      ap (λ (o : Option PortEntry). unwrap_or o no_port)
      (value_of-with_value-same contents handle.id port handle refl has)

  -- another entry is as it was
  pub port_at-with_port-other : (port : PortEntry) (other : Handle) → other.id ≢ handle.id →
      port_at (with_port contents handle port) other ≡ port_at contents other
  port_at-with_port-other port other apart =
      ap (λ (o : Option PortEntry). unwrap_or o no_port)
      (value_of-with_value-other contents handle.id port other.id apart)

  -- the entry that is there, written again, changes nothing
  pub with_port-present : Has contents handle → with_port contents handle (port_at contents handle) ≡ contents
  with_port-present has =
      with_value-present contents handle.id (port_at contents handle) (value_of-port_at has)

  -- of two entries that are written the second stays
  pub with_port-twice : (first second : PortEntry) →
      with_port (with_port contents handle first) handle second ≡ with_port contents handle second
  with_port-twice first second = with_value-twice contents handle.id first second

  -- nor does a channel that is there
  pub with_channel_of-present : (channel : ℕ) → Has contents handle →
      with_channel_of contents handle channel (channel_of contents handle channel) ≡ contents
  with_channel_of-present channel has =
      ap (λ channels. with_port contents handle (record (port_at contents handle) { channels = channels }))
      (set-get_or (port_at contents handle).channels channel no_channel)
      ∙ with_port-present has

  -- a registry has what it had
  pub Has-with_port : (port : PortEntry) (other : Handle) → Has contents other →
      Has (with_port contents handle port) other
  Has-with_port port other has = Has-with_value contents handle.id port other has

-- where an entry was written, each open handle has what it had
pub KeepsHandles-with_port : (old new : Contents PortEntry) (handle : Handle) (port : PortEntry) →
    new ≡ with_port old handle port → KeepsHandles old new
KeepsHandles-with_port old new handle port is =
    subst (KeepsHandles old) (sym is) (KeepsHandles-with_value old handle.id port)

-- ---- holders

module _ (contents : Contents PortEntry) (handle : Handle) (port : PortEntry) where
  as_many : (count : ℕ) (at : Option (Entry PortEntry)) → IsSomeAnd at (λ entry. count ≤ entry.holders) →
      IsSomeAnd (option_map (λ (entry : Entry PortEntry). record entry { value = port }) at)
      (λ entry. count ≤ entry.holders)
  as_many count None many = absurd many
  as_many count (Some entry) many = many

  -- where an entry was written, a handle's entry is held by as many as before
  pub Holds-with_port : (count : ℕ) (other : Handle) → Holds contents count other →
      Holds (with_port contents handle port) count other
  Holds-with_port count other holds = (
    Has-with_value contents handle.id port other holds.0,
    elim (cases_eq other.id handle.id) [
      | inl same ↦
          subst (λ i. IsSomeAnd (entry_of (with_port contents handle port) i) (λ entry. count ≤ entry.holders))
          (sym same)
          (subst (λ (o : Option (Entry PortEntry)). IsSomeAnd o (λ entry. count ≤ entry.holders))
          (sym (entry_of-with_value-same contents handle.id port))
          (as_many count (entry_of contents handle.id)
          (subst (λ i. IsSomeAnd (entry_of contents i) (λ entry. count ≤ entry.holders)) same holds.1)))
      | inr apart ↦
          subst (λ (o : Option (Entry PortEntry)). IsSomeAnd o (λ entry. count ≤ entry.holders))
          (sym (entry_of-with_value-other contents handle.id port other.id apart)) holds.1
    ],
  )

  -- what a close after it leaves is left of what was before it
  pub KeepsOtherHandles-with_port : (new : Contents PortEntry) →
      KeepsOtherHandles (with_port contents handle port) new handle.id → KeepsOtherHandles contents new handle.id
  KeepsOtherHandles-with_port new keeps count other apart holds =
      keeps count other apart (Holds-with_port count other holds)

  pub LeavesSharers-with_port : (new : Contents PortEntry) →
      LeavesSharers (with_port contents handle port) new handle.id → LeavesSharers contents new handle.id
  LeavesSharers-with_port new leaves count other same some holds =
      leaves count other same some (Holds-with_port (count + 1) other holds)
