-- What the commands ask of a ledger, which also a ledger has from which a chunk is about to leave by overflow.
use Rattle.std.proofs.Common.{ℕ, ◌<◌, ◌≡◌, ◌≢◌, true, length, Some}
use Rattle.std.specs.List.{slice_get}
use Rattle.cal_transport.specs.Ledger.{Ledger, Chunk, ChannelHistory, is_live}
use Rattle.cal_transport.specs.Soundness.{HasRoom, HasSoundSegments, LiesWithin, ShareBucket, IsSentChunk, IsSoundLedger, weight, IsOrderly}
use Rattle.cal_transport.proofs.Chunks.{names_differ}

-- names and buckets are apart, and what is on its way is a chunk that the connection can name
pub record IsSettled (l : Ledger) : Type 0 where
  pub room : HasRoom l.settings
  pub segments : HasSoundSegments l
  pub names : (i j : ℕ) (a b : Chunk) → slice_get l.chunks i ≡ Some a → slice_get l.chunks j ≡ Some b → i ≢ j →
      a.name ≢ b.name
  pub within : (i : ℕ) (a : Chunk) → slice_get l.chunks i ≡ Some a → LiesWithin l a
  pub apart : (i j : ℕ) (a b : Chunk) → slice_get l.chunks i ≡ Some a → slice_get l.chunks j ≡ Some b →
      is_live l a ≡ true → is_live l b ≡ true → ShareBucket a b → i ≡ j
  pub channels : length l.histories ≡ l.settings.channels
  pub orderly : (k : ℕ) (c : ChannelHistory) → slice_get l.histories k ≡ Some c → IsOrderly c
  pub known : (k : ℕ) (c : ChannelHistory) (name : ℕ) → slice_get l.histories k ≡ Some c → 0 < weight c name →
      IsSentChunk l name

pub settled : (l : Ledger) (place : ℕ) → IsSoundLedger l place → IsSettled l
settled l place sound = record {
  room = sound.room;
  segments = sound.segments;
  names = λ i j a b first second apart. names_differ l.chunks place i j a b sound.names first second apart;
  within = sound.within;
  apart = sound.apart;
  channels = sound.channels;
  orderly = λ k c here. (let h = sound.histories k c here in h.orderly);
  known = sound.known;
}
