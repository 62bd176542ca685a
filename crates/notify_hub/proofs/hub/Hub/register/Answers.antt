use Rattle.std.proofs.Common.{List, length, Option, Some, refl, sym, ap, ◌∙◌, subst}
use Rattle.drmaa_model.specs.declared.entries.Entry.{Entry}
use Rattle.turn_lock.specs.Histories.{BeginsWith}
use Rattle.call_history.specs.Clients.{Seat, seen_of, SeesMore}
use Rattle.notify_hub.specs.Hubs.{Following, noted, IsNoteOf, with_place}
use Rattle.change_callbacks.specs.Places.{place_of, Follows, AreCountable}
use Rattle.notify_hub.proofs.Looking.{begins-of, learnt-more}
use Rattle.notify_hub.proofs.Noting.{begins-on, may-be, follows-note, hub-follows, hub-ahead, hub-unplaced, legal-begins, place-ahead, placed-follows, placed-is, placed-handed, registered-both, unregistered-both, unregistered-at}
use Rattle.notify_hub.proofs.hub.Hub.register.Goals as goal

pub place_after-place-requires-clause-from : goal.place_after-place-requires-clause-from
place_after-place-requires-clause-from g c =
    let shared = c.args.shared.now in
    let ears = c.self.inside.ears in
    let note = c.self.inside.note in
    let mid : List Entry = seen_of c.register_next.new.client in
    let own = subst (λ (h : Following g.row.B.Denot). IsNoteOf shared h.note) (sym c.self.view_is) c.requires.note in
    let recalled = subst (λ (o : Option Seat). BeginsWith (seen_of c.recall.new.client) (noted o)) c.take.ensures.value c.recall.ensures.recalled in
    let b = begins-on (noted note) (seen_of c.recall.new.client) mid recalled c.register_next.ensures.begins in
    hub-ahead shared ears note c.self.inside.handed mid c.self.invariant own b c.register_next.ensures.legal

pub give_place-requires-clause-unplaced : goal.give_place-requires-clause-unplaced
give_place-requires-clause-unplaced g c =
    let shared = c.args.shared.now in
    let ears = c.self.inside.ears in
    let note = c.self.inside.note in
    let mid : List Entry = seen_of c.register_next.new.client in
    let own = subst (λ (h : Following g.row.B.Denot). IsNoteOf shared h.note) (sym c.self.view_is) c.requires.note in
    let recalled = subst (λ (o : Option Seat). BeginsWith (seen_of c.recall.new.client) (noted o)) c.take.ensures.value c.recall.ensures.recalled in
    let b = begins-on (noted note) (seen_of c.recall.new.client) mid recalled c.register_next.ensures.begins in
    hub-unplaced shared.fixed (noted note) (seen_of c.recall.new.client) ears c.in-Ok.n (c.self.invariant.follows shared.fixed (may-be shared note own)) recalled
    (legal-begins shared.fixed (seen_of c.recall.new.client) mid c.register_next.ensures.legal c.register_next.ensures.begins) c.in-Ok.ensures.new.unknown

pub give_place-requires-clause-ahead : goal.give_place-requires-clause-ahead
give_place-requires-clause-ahead g c =
    let shared = c.args.shared.now in
    let ears = c.self.inside.ears in
    let note = c.self.inside.note in
    let mid : List Entry = seen_of c.register_next.new.client in
    let own = subst (λ (h : Following g.row.B.Denot). IsNoteOf shared h.note) (sym c.self.view_is) c.requires.note in
    let recalled = subst (λ (o : Option Seat). BeginsWith (seen_of c.recall.new.client) (noted o)) c.take.ensures.value c.recall.ensures.recalled in
    let b = begins-on (noted note) (seen_of c.recall.new.client) mid recalled c.register_next.ensures.begins in
    let f = hub-follows shared ears note c.self.inside.handed mid c.self.invariant own b c.register_next.ensures.legal in
    place-ahead shared.fixed ears mid (seen_of c.place_after-place.new.client) c.place_after-place.result f c.place_after-place.ensures.counted

pub invariant_of-self : goal.invariant_of-self
invariant_of-self g c =
    let shared = c.args.shared.now in
    let ears = c.self.inside.ears in
    let note = c.self.inside.note in
    let mid : List Entry = seen_of c.register_next.new.client in
    let own = subst (λ (h : Following g.row.B.Denot). IsNoteOf shared h.note) (sym c.self.view_is) c.requires.note in
    let recalled = subst (λ (o : Option Seat). BeginsWith (seen_of c.recall.new.client) (noted o)) c.take.ensures.value c.recall.ensures.recalled in
    let b = begins-on (noted note) (seen_of c.recall.new.client) mid recalled c.register_next.ensures.begins in
    let after = c.give_place.new.ears in
    let seen : List Entry = seen_of c.place_after-place.new.client in
    let looked = begins-of c.register_next.new.client c.place_after-place.new.client c.place_after-place.ensures.looks.more in
    let f = hub-follows shared ears note c.self.inside.handed seen c.self.invariant own (begins-on (noted note) mid seen b looked) c.place_after-place.ensures.looks.legal in
    let now = placed-follows shared.fixed ears after (seen_of c.recall.new.client) mid seen c.in-Ok.n c.place_after-place.result c.in-Ok.ensures.new looked f c.place_after-place.ensures.counted
    c.give_place.ensures.placed c.give_place.ensures.unknown in
    record {
      counted = c.self.invariant.counted ∙ ap (λ l. length l) (sym (placed-handed ears after c.in-Ok.n c.place_after-place.result c.give_place.ensures.placed c.give_place.ensures.unknown));
      follows = follows-note shared after (Some c.note.result) c.note.result refl c.note.ensures.note
          (subst (λ (h : List Entry). Follows shared.fixed h after) (sym c.note.ensures.seen) now);
    }

pub invariant_of-self-in-Err : goal.invariant_of-self-in-Err
invariant_of-self-in-Err g c =
    let shared = c.args.shared.now in
    let ears = c.self.inside.ears in
    let note = c.self.inside.note in
    let mid : List Entry = seen_of c.register_next.new.client in
    let own = subst (λ (h : Following g.row.B.Denot). IsNoteOf shared h.note) (sym c.self.view_is) c.requires.note in
    let recalled = subst (λ (o : Option Seat). BeginsWith (seen_of c.recall.new.client) (noted o)) c.take.ensures.value c.recall.ensures.recalled in
    let b = begins-on (noted note) (seen_of c.recall.new.client) mid recalled c.register_next.ensures.begins in
    let now = hub-follows shared ears note c.self.inside.handed mid c.self.invariant own b c.register_next.ensures.legal in
    record {
      counted = c.self.invariant.counted;
      follows = follows-note shared ears (Some c.note-in-Err.result) c.note-in-Err.result refl c.note-in-Err.ensures.note
          (subst (λ (h : List Entry). Follows shared.fixed h ears) (sym c.note-in-Err.ensures.seen) now);
    }

pub returns-in-Ok-clause-ok : goal.returns-in-Ok-clause-ok
returns-in-Ok-clause-ok g c =
    let old = c.args.client.now in
    let mid = c.recall.new.client in
    registered-both old mid c.register_next.new.client (learnt-more old mid c.recall.ensures.knew c.recall.ensures.own c.recall.ensures.number c.recall.ensures.mine c.recall.ensures.begins)
    c.recall.ensures.number c.args.shared.now.fixed _ _ _ c.in-Ok.n c.note.new.client c.in-Ok.ensures.ok c.in-Ok.ensures.new
    (subst (λ (s : Seat). SeesMore c.register_next.new.client s) (sym c.note.ensures.client) c.place_after-place.ensures.looks.more)
    c.place_after-place.ensures.looks.rises

pub returns-in-Ok-clause-place : goal.returns-in-Ok-clause-place
returns-in-Ok-clause-place g c = λ few.
    let shared = c.args.shared.now in
    let ears = c.self.inside.ears in
    let n = c.in-Ok.n in
    let here = c.place_after-place.new.client in
    let looked = begins-of c.register_next.new.client here c.place_after-place.ensures.looks.more in
    placed-is shared.fixed ears c.give_place.new.ears (seen_of c.recall.new.client) (seen_of c.register_next.new.client) (seen_of here) n c.place_after-place.result c.in-Ok.ensures.new looked
    c.place_after-place.ensures.counted c.give_place.ensures.placed (subst (λ (s : Seat). AreCountable shared.fixed (seen_of s)) c.note.ensures.client few)
    ∙ ap (λ (s : Seat). with_place ears n (place_of shared.fixed (seen_of s) n)) (sym c.note.ensures.client)
    ∙ ap (λ (h : Following g.row.B.Denot). with_place h.ears n (place_of shared.fixed (seen_of c.note.new.client) n)) c.self.view_is

pub returns-in-Ok-clause-follows : goal.returns-in-Ok-clause-follows
returns-in-Ok-clause-follows g c = (invariant_of-self g c).follows

pub returns-in-Err-clause-err : goal.returns-in-Err-clause-err
returns-in-Err-clause-err g c =
    let old = c.args.client.now in
    let mid = c.recall.new.client in
    unregistered-at c.args.shared.now.fixed _ _ c.in-Err.why old c.register_next.new.client c.note-in-Err.new.client c.note-in-Err.ensures.client
    (unregistered-both old mid c.register_next.new.client (learnt-more old mid c.recall.ensures.knew c.recall.ensures.own c.recall.ensures.number c.recall.ensures.mine c.recall.ensures.begins)
    c.recall.ensures.number c.args.shared.now.fixed _ _ c.in-Err.why c.in-Err.ensures.err)

pub returns-in-Err-clause-follows : goal.returns-in-Err-clause-follows
returns-in-Err-clause-follows g c = (invariant_of-self-in-Err g c).follows
