use Rattle.std.proofs.Common.{◌≡◌, List, length, Option, Some, refl, sym, ap, ◌∙◌, subst}
use Rattle.drmaa_model.specs.declared.entries.Entry.{Entry}
use Rattle.turn_lock.specs.Histories.{BeginsWith}
use Rattle.call_history.specs.ClientLaws.{more-both}
use Rattle.call_history.specs.Clients.{Seat, seen_of, SeesMore}
use Rattle.change_callbacks.specs.Ears.{Listening, place_at}
use Rattle.notify_hub.specs.Hubs.{Following, noted, IsNoteOf}
use Rattle.change_callbacks.specs.Places.{changes_of, Follows}
use Rattle.notify_hub.proofs.Growing.{begins-changes}
use Rattle.notify_hub.proofs.Looking.{begins-of, learnt-more}
use Rattle.notify_hub.proofs.Noting.{begins-on, may-be, follows-note, hub-follows}
use Rattle.notify_hub.proofs.hub.Hub.pump.Goals as goal

pub hand_all-handed-requires-clause-begins : goal.hand_all-handed-requires-clause-begins
hand_all-handed-requires-clause-begins g c =
    let shared = c.args.shared.now in
    let seen : List Entry = seen_of c.recall.new.client in
    let own = subst (λ (h : Following g.row.B.Denot). IsNoteOf shared h.note) (sym c.self.view_is) c.requires.note in
    let first = c.self.invariant.follows shared.fixed (may-be shared c.self.inside.note own) in
    begins-changes c.self.inside.ears.handed (changes_of shared.fixed (noted c.self.inside.note)) (changes_of shared.fixed seen) first.handed
    (subst (λ (o : Option Seat). BeginsWith (changes_of shared.fixed seen) (changes_of shared.fixed (noted o))) c.take.ensures.value c.recall.ensures.changes)

pub invariant_of-self : goal.invariant_of-self
invariant_of-self g c =
    let shared = c.args.shared.now in
    let ears = c.self.inside.ears in
    let after = c.hand_all-handed.new.ears in
    let seen : List Entry = seen_of c.hand_all-handed.new.client in
    let own = subst (λ (h : Following g.row.B.Denot). IsNoteOf shared h.note) (sym c.self.view_is) c.requires.note in
    let recalled = subst (λ (o : Option Seat). BeginsWith (seen_of c.recall.new.client) (noted o)) c.take.ensures.value c.recall.ensures.recalled in
    let looked = begins-of c.recall.new.client c.hand_all-handed.new.client c.hand_all-handed.ensures.looks.more in
    let b = begins-on (noted c.self.inside.note) (seen_of c.recall.new.client) seen recalled looked in
    let f = hub-follows shared ears c.self.inside.note c.self.inside.handed seen c.self.invariant own b c.hand_all-handed.ensures.looks.legal in
    let now : Follows shared.fixed seen after = record {
      legal = f.legal;
      as_many = ap (λ (e : Listening g.row.B.Denot). length e.places) c.hand_all-handed.ensures.ears ∙ f.as_many;
      places = λ i p at. f.places i p (subst (λ (e : Listening g.row.B.Denot). place_at e.places i ≡ Some p) c.hand_all-handed.ensures.ears at);
      handed = c.hand_all-handed.ensures.begins;
    } in
    record {
      counted = c.hand_all-handed.ensures.handed;
      follows = follows-note shared after (Some c.note-seen.result) c.note-seen.result refl c.note-seen.ensures.note
          (subst (λ (h : List Entry). Follows shared.fixed h after) (sym c.note-seen.ensures.seen) now);
    }

pub returns-clause-more : goal.returns-clause-more
returns-clause-more g c =
    let old = c.args.client.now in
    let mid = c.recall.new.client in
    subst (λ (s : Seat). SeesMore old s) (sym c.note-seen.ensures.client)
    (more-both old mid c.hand_all-handed.new.client (learnt-more old mid c.recall.ensures.knew c.recall.ensures.own c.recall.ensures.number c.recall.ensures.mine c.recall.ensures.begins)
    c.recall.ensures.number c.hand_all-handed.ensures.looks.more)

pub returns-clause-follows : goal.returns-clause-follows
returns-clause-follows g c = (invariant_of-self g c).follows
