use Rattle.std.proofs.Common.{rules, false, sym}
use Rattle.std.proofs.lemmas.Cmp.{ranked}
use Rattle.std.proofs.lemmas.List.Sorted.{answers_always}
use Rattle.cal_transport.specs.declared.transport.chunk_entry.ChunkEntry.{ChunkEntry}
use Rattle.cal_transport.proofs.EntryLookup.{slice_get-here, has_no_entry}
use Rattle.cal_transport.proofs.transport.chunk_entry.find_entry.Goals as goal

pub returns-in-Ok : goal.returns-in-Ok
returns-in-Ok c =
    let found = c.in-Ok.ensures.position
    (λ (entry : ChunkEntry). entry.name) (answers_always _ _ _ (λ f a r g called. search rules)) in
    let none : ChunkEntry = record {
      name = 0;
      segment = 0;
      bucket = 0;
      loaned = false;
      sent = false;
      transits = 0;
    } in
    record {
      found = (
        slice_get-here c.args.entries.now c.in-Ok.index none c.in-Ok.ensures.bound,
        ranked _ c.args.name _ (sym (found none)),
      );
    }

pub returns-in-Err : goal.returns-in-Err
returns-in-Err c =
    let parted = c.in-Err.ensures.position
    (λ (entry : ChunkEntry). entry.name) (answers_always _ _ _ (λ f a r g called. search rules)) in
    record { found = has_no_entry c.args.entries.now c.args.name _ c.requires.rising parted }
