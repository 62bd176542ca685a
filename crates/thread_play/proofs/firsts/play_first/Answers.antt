use Rattle.std.proofs.Common.{◌≡◌, ◌≤◌, ℕ, List, [], ◌∷◌, ◌++◌, ap, sym, ◌∙◌, subst, set, length, Option, Some, None}
use Rattle.std.specs.Prelude.{IfOk}
use Rattle.drmaa_model.specs.declared.entries.Entry.{Entry}
use Rattle.turn_lock.specs.Histories.{BeginsWith}
use Rattle.call_history.specs.Callers.{calls_of}
use Rattle.call_history.specs.Clients.{Seat, seen_of, mine_of, retired_of, number_of, KnowsItsOwn}
use Rattle.call_history.specs.Timed.{IsTimed}
use Rattle.notify_hub.specs.Hubs.{IsNoteOf}
use Rattle.change_callbacks.specs.Places.{HavePlaces}
use Rattle.script_text.specs.Follows.{lines_of}
use Rattle.script_asks.specs.Plays.{setup_names}
use Rattle.beside_clients.specs.HubClients.{FollowsAll}
use Rattle.thread_play.specs.Stages.{PlaysOn}
use Rattle.beside_clients.proofs.Beginnings.{alone, none-before}
use Rattle.thread_play.proofs.Blocks.{plays-on, names-of}
use Rattle.thread_play.proofs.Posts.{none-timed}
use Rattle.thread_play.proofs.firsts.play_first.Goals as goal

pub play_setup-played-requires-clause-note : goal.play_setup-played-requires-clause-note
play_setup-played-requires-clause-note g c = subst (λ (o : Option Seat). IsNoteOf c.args.shared.now o) (sym c.requires.note) tt

-- the only caller there is has seen its own entries alone
own-all : (client : Seat) → number_of client ≡ 0 → KnowsItsOwn client → ((k : ℕ) → 1 ≤ k → calls_of (seen_of client) k ≡ []) → seen_of client ≡ mine_of client
own-all client zero own none = sym (alone (seen_of client) none) ∙ (ap (λ (k : ℕ). calls_of (seen_of client) k) (sym zero) ∙ sym own)

pub returns : goal.returns
returns g c =
    let o = c.open_client.ensures in
    let p = c.play_setup-played.ensures in
    let u = c.pump_once.ensures in
    let r = c.retire.ensures in
    let mid = c.play_setup-played.new.desk.client in
    let client = c.pump_once.new.hub_seat.client in
    let own = mine_of client in
    let hub = c.pump_once.new.hub in
    let one : retired_of c.open_client.new.opener ≡ None ∷ [] = o.retired ∙ ap (λ (l : List (Option (List Entry))). l ++ None ∷ []) c.requires.fresh in
    let zero : number_of mid ≡ 0 = p.desk.number ∙ (o.number ∙ ap length c.requires.fresh) in
    let last : number_of client ≡ 0 = u.on.still.number ∙ zero in
    let back : retired_of c.retire.new.opener ≡ Some own ∷ [] =
    r.retired ∙ (ap (λ (l : List (Option (List Entry))). set l (number_of client) (Some own)) one ∙ ap (λ (n : ℕ). set (None ∷ []) n (Some own)) last) in
    let none : (k : ℕ) → 1 ≤ k → calls_of (seen_of client) k ≡ [] = λ k h. none-before (seen_of c.retire.new.opener) (seen_of client) k r.from_client (r.clean k (subst (λ (l : List (Option (List Entry))). length l ≤ k) (sym back) h)) in
    let all : seen_of client ≡ own = own-all client last r.own none in
    let same : mine_of mid ≡ own = sym u.on.still.mine in
    let before : seen_of mid ≡ own = own-all mid zero (p.desk.own o.own) (λ k h. none-before (seen_of client) (seen_of mid) k u.on.still.begins (none k h)) ∙ same in
    let early = g.K.One.Clock.given c.clock.result in
    let given = g.K.One.Clock.given c.play_setup-played.new.desk.clock in
    let fresh = none-timed (Some 0) early (mine_of c.open_client.result) c.clock.ensures.caller o.mine in
    let played : PlaysOn c.args.shared.now.fixed c.args.script.now [] (lines_of c.args.script.now.setup) (mine_of mid) (seen_of mid) given c.play_setup-played.result =
    plays-on c.args.shared.now.fixed c.args.script.now [] (lines_of c.args.script.now.setup) c.open_client.result mid early given _ c.play_setup-played.result o.mine p.ok p.err in
    record {
      first = record {
        opener = r.opener;
        own = own;
        retired = back;
        seen = subst (λ (es : List Entry). BeginsWith (seen_of c.retire.new.opener) es) all r.from_client;
        alone = subst (λ (es : List Entry). calls_of es 0 ≡ es) all (alone (seen_of client) none);
        legal = r.legal;
        timed = subst (λ (es : List Entry). IsTimed (Some 0) es given) same (p.timed (Some 0) fresh);
        played = subst (λ (es : List Entry). PlaysOn c.args.shared.now.fixed c.args.script.now [] (lines_of c.args.script.now.setup) own es given c.play_setup-played.result) before
            (subst (λ (es : List Entry). PlaysOn c.args.shared.now.fixed c.args.script.now [] (lines_of c.args.script.now.setup) es (seen_of mid) given c.play_setup-played.result) same played);
        names = subst (λ (es : List Entry). IfOk c.play_setup-played.result (λ names. names ≡ setup_names c.args.script.now es)) same (names-of c.args.script.now (mine_of c.open_client.result) (mine_of mid) _ c.play_setup-played.result o.mine p.ok);
      };
      hears = record {
        follows = subst (λ (es : List Entry). FollowsAll c.args.shared.now es hub) all u.follows;
        placed = subst (λ (ps : List (Option ℕ)). HavePlaces own ps) (sym u.on.keeps.places)
            (subst (λ (es : List Entry). HavePlaces es c.play_setup-played.new.hub.ears.places) same
            (p.hub.placed (subst (λ (es : List Entry). HavePlaces es c.args.hub.now.ears.places) (sym o.mine) tt)));
        begun = u.on.keeps.begun ∙ p.hub.begun;
        heard = λ h. u.on.keeps.heard (p.hub.heard h);
      };
    }
