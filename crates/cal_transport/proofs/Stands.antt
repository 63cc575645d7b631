-- What is shared by the commands: a channel that is there, refused commands, and steps over every ledger that the parts
-- show.
use Rattle.std.proofs.Common.{ℕ, ◌+◌, ◌*◌, ◌<◌, ◌≡◌, length, Some, None, refl, sym, ap, ◌∙◌, subst, arith}
use Rattle.std.specs.List.{slice_get}
use Rattle.std.proofs.lemmas.Option.{slice_get-get_or}
use Rattle.cal_queue.specs.UsedChunks.{contains, capacity_of}
use Rattle.cal_connection.specs.Channel as channel
use Rattle.cal_transport.specs.declared.command.Command.{Command}
use Rattle.cal_transport.specs.declared.reply.Reply.{Reply}
use Rattle.cal_transport.specs.declared.reply.Reply.TheVariants.{Refused}
use Rattle.cal_transport.specs.declared.reply.Refusal.{Refusal}
use Rattle.cal_transport.specs.Ledger.{current, Ledger, ChannelHistory, history_on, new_history}
use Rattle.cal_transport.specs.Cause.{cause}
use Rattle.cal_transport.specs.Step.{Owes, IsStep, IsStepBy, after_command, after_step, after_step_by}
use Rattle.cal_transport.specs.Core.{Core}
use Rattle.cal_transport.specs.Shown.{Shows, Tracks, ShowsActive, ShowsMapped, ShowsChannel}
use Rattle.cal_transport.proofs.Settled.{IsSettled}
use Rattle.cal_transport.proofs.Channels.{SameChannel, SameTracks}

-- the history of a channel that is there
pub record HasHistory (l : Ledger) (k : ℕ) : Type 0 where
  pub history : ChannelHistory
  pub here : slice_get l.histories k ≡ Some history
  pub on : history_on l k ≡ history

pub has_history : (l : Ledger) → IsSettled l → (k : ℕ) → k < l.settings.channels → HasHistory l k
has_history l s k within =
    let many = s.channels in
    let here = slice_get-get_or l.histories k new_history (omega arith) in
    record { history = history_on l k; here = here; on = refl }

-- the parts show the ledger after a reply, which is a step
pub record Steps (p' : Core) (l : Ledger) (place : ℕ) (asked : Command) (reply : Reply) : Type 0 where
  pub step : IsStep l place asked reply
  pub shows : Shows p' (after_step l place asked reply)
  pub tracks : Tracks p' (after_step l place asked reply)

-- a refused command changes nothing
pub refused : (p : Core) (l : Ledger) (place : ℕ) (asked : Command) (why : Refusal) → Shows p l → Tracks p l →
    cause l asked ≡ Some why → Steps p l place asked (Refused why)
refused p l place asked why shows tracks is = record {
  step = subst (λ o. IsStepBy o l place asked (Refused why)) (sym is) refl;
  shows = subst (λ o. Shows p (after_step_by o l place asked (Refused why))) (sym is) shows;
  tracks = subst (λ o. Tracks p (after_step_by o l place asked (Refused why))) (sym is) tracks;
}

-- a command without a cause owes its reply and changes the ledger
pub done : (p' : Core) (l l' : Ledger) (place : ℕ) (asked : Command) (reply : Reply) → cause l asked ≡ None →
    Owes l place asked reply → after_command l place asked reply ≡ l' → Shows p' l' → Tracks p' l' →
    Steps p' l place asked reply
done p' l l' place asked reply none owes made shows tracks = record {
  step = subst (λ o. IsStepBy o l place asked reply) (sym none) owes;
  shows = subst (λ o. Shows p' (after_step_by o l place asked reply)) (sym none) (subst (Shows p') (sym made) shows);
  tracks = subst (λ o. Tracks p' (after_step_by o l place asked reply)) (sym none) (subst (Tracks p') (sym made)
      tracks);
}

-- ---- parts that are seen alike

-- each part is seen as before
pub record SameCore (p p' : Core) : Type 0 where
  pub settings : p'.settings ≡ p.settings
  pub current : p'.current ≡ p.current
  pub active : (segment : ℕ) → p'.active segment ≡ p.active segment
  pub opened_last : p'.opened_last ≡ p.opened_last
  pub mapped : (segment : ℕ) → p'.mapped segment ≡ p.mapped segment
  pub channels : (k : ℕ) → SameChannel p p' k
  pub entries : p'.entries ≡ p.entries
  pub tracks : (k : ℕ) → SameTracks p p' k
  pub owners : (segment : ℕ) → p'.owners segment ≡ p.owners segment
  pub in_transit : p'.in_transit ≡ p.in_transit

same_channel : (p p' : Core) (l : Ledger) (k : ℕ) (h : ChannelHistory) → SameChannel p p' k → ShowsChannel p l k h →
    ShowsChannel p' l k h
same_channel p p' l k h same shows = record {
  shape = ap channel.shape same.channel ∙ shows.shape;
  queued = ap (λ (e : channel.ChannelEntry). e.submission.values) same.channel ∙ shows.queued;
  completed = ap (λ (e : channel.ChannelEntry). e.completion.values) same.channel ∙ shows.completed;
  borrowed = same.borrowed ∙ shows.borrowed;
  used = λ segment bucket. ap (λ (e : channel.ChannelEntry). channel.is_used e.segments segment bucket) same.channel
      ∙ shows.used segment bucket;
  sizes = λ i chunk there transit.
      ap (λ (e : channel.ChannelEntry). (channel.segment_at e.segments chunk.segment).sample_size) same.channel
      ∙ shows.sizes i chunk there transit;
}

pub same_shows : (p p' : Core) (l : Ledger) → SameCore p p' → Shows p l → Shows p' l
same_shows p p' l same shows = record {
  settings = same.settings ∙ shows.settings;
  current = same.current ∙ shows.current;
  active = λ segment. subst (ShowsActive l segment) (sym (same.active segment)) (shows.active segment);
  bytes = λ i chunk shown there living has. shows.bytes i chunk shown there living
      (sym (same.active chunk.segment) ∙ has);
  opened_last = same.opened_last ∙ shows.opened_last;
  mapped = λ segment. subst (ShowsMapped l segment) (sym (same.mapped segment)) (shows.mapped segment);
  channels = λ k h here. same_channel p p' l k h (same.channels k) (shows.channels k h here);
  entries = same.entries ∙ shows.entries;
}

pub same_tracks : (p p' : Core) (l : Ledger) → SameCore p p' → Tracks p l → Tracks p' l
same_tracks p p' l same tracks = record {
  channels = λ k h here. (let t = tracks.channels k h here in let s = same.tracks k in record {
    room = ap capacity_of s.lent ∙ t.room;
    lent = λ segment bucket inside below.
        ap (λ used. contains used (segment * l.settings.samples + bucket)) s.lent ∙ t.lent segment bucket inside below;
    transits = s.transits ∙ t.transits;
  });
  owners = λ i chunk there living. ap (λ os. slice_get os chunk.bucket) (same.owners chunk.segment)
      ∙ tracks.owners i chunk there living;
  table = ap length (same.owners (current l)) ∙ tracks.table;
  in_transit = same.in_transit ∙ tracks.in_transit;
}
