-- What a line leaves for the callbacks: at most one entry more, and the changes behind those that were handed over.
use Rattle.std.proofs.Common.{◌≡◌, ℕ, ◌+◌, ◌-◌, ◌≤◌, zero, suc, nat_le, true, false, ◌⊎◌, inl, inr, List, [], ◌∷◌, ◌++◌, take, drop, length, slice_get, slice_set, Option, Some, None, refl, sym, ap, ◌∙◌, subst, append_assoc, arith}
use Rattle.std.specs.Prelude.{if◌then◌else◌}
use Rattle.std.proofs.lemmas.List.{take_all, take-append-le, length-append}
use Rattle.drmaa_types.specs.declared.changes.Change.{Change}
use Rattle.drmaa_types.specs.declared.changes.Notification.{Notification}
use Rattle.drmaa_types.specs.declared.identifiers.CallerId.{CallerId}
use Rattle.drmaa_model.specs.declared.calls.Call.{Call}
use Rattle.drmaa_model.specs.declared.configs.Config.{Config}
use Rattle.drmaa_model.specs.declared.entries.Entry.{Entry}
use Rattle.drmaa_model.specs.declared.replies.Reply.{Reply}
use Rattle.drmaa_model.specs.Effects.{StepAnswer, gives, nothing, not_yet}
use Rattle.drmaa_model.specs.History.{IsLegal, Ledger, now_of, replay}
use Rattle.drmaa_model.specs.HistoryLaws.{legal-last, legal-prefix}
use Rattle.drmaa_model.specs.RecordedCalls.{recorded}
use Rattle.drmaa_model.specs.Size.{size}
use Rattle.drmaa_model.specs.StepLaws.{legal-consistent, step-edges}
use Rattle.drmaa_model.specs.Steps.{answer}
use Rattle.drmaa_model.specs.World.{World}
use Rattle.change_callbacks.specs.Ears.{Listening, HaveHeard, place_at, silent}
use Rattle.change_callbacks.specs.PlacedLaws as hub_places
use Rattle.change_callbacks.specs.Places.{registrations_of}
use Rattle.text_codec.specs.Formats.{choose}
use Rattle.script_lines.specs.declared.lines.Line.{Line}
use Rattle.script_text.specs.declared.scripts.Script.{Script}
use Rattle.script_asks.specs.Plays as plays
use Rattle.script_asks.specs.Replies.{names_after}
use Rattle.script_asks.specs.Plays.{Playing, Performer, sets, waits, a_client, the_launcher, the_reaper, entered, after_answer, after_look, come_later, second_look, asks_now, play_by, play_line, performer_of}
use Rattle.script_play.specs.Callbacks.{number_in, number_of, AreCurrent, ArePlacedAfter, AreCurrentAfter, GoesOn, AreBehind}
use Rattle.script_play.specs.Looks.{GoesTo}
use Rattle.script_play.specs.View.{Start, View, AreNotes, IsNoted, added_to, playing, start_of}
use Rattle.script_play.proofs.Places.{IsPlacedNow, no-fewer, placed-first, placed-new, placed-same}
use Rattle.script_play.proofs.Registrations.{number-none, number-some}

-- ---- one line makes at most one entry

-- the list went on by at most one entry
unfoldable pub Grows : List Entry → List Entry → Type 0
Grows before after = (after ≡ before) ⊎ ((e : Entry) × (after ≡ before ++ e ∷ []))

entered-grows : (p : Playing) (caller : CallerId) (l : Line) (c : Call) (r : Reply) (next : World) → Grows p.entries (entered p caller l c r next).entries
unfolding Grows
entered-grows p caller l c r next =
    let e : Entry = record { caller = caller; at = p.moment; call = recorded c; reply = r } in
    elim (nat_le (size next) p.world.config.journal) as (λ b. Grows p.entries (if b then record p { world = next; names = names_after l r p.names; entries = p.entries ++ e ∷ [] } else record p { full = Some (size next) }).entries) [
      | true ↦ inr (e, refl)
      | false ↦ inl refl
    ]

answered-grows : (p : Playing) (caller : CallerId) (l : Line) (c : Call) (a : StepAnswer) (second : Playing) → Grows p.entries second.entries → Grows p.entries (after_answer p caller l c a second).entries
unfolding Grows
answered-grows p caller l c (gives r next) second g = entered-grows p caller l c r next
answered-grows p caller l c nothing second g = inl refl
answered-grows p caller l c not_yet second g = g

looked-grows : (p : Playing) (caller : CallerId) (l : Line) (c : Call) (second : Playing) → Grows p.entries second.entries → Grows p.entries (after_look p caller l c second).entries
looked-grows p caller l c second g = answered-grows p caller l c (answer p.world p.moment (recorded c)) second g

chosen-grows : (p : Playing) (o : Option Call) (f : Call → Playing) → ((c : Call) → Grows p.entries (f c).entries) → Grows p.entries (choose o f p).entries
unfolding Grows
chosen-grows p None f each = inl refl
chosen-grows p (Some c) f each = each c

performer-grows : (s : Script) (crew : plays.Crew) (p : Playing) (l : Line) (t : Performer) → Grows p.entries (play_by s crew p l t).entries
unfolding Grows
performer-grows s crew p l (sets m) = inl refl
performer-grows s crew p l (waits timeout) =
    chosen-grows p (asks_now s p l) (λ c. after_look p crew.client l c (second_look (come_later p timeout) crew.client l c)) (λ c.
    looked-grows p crew.client l c (second_look (come_later p timeout) crew.client l c) (looked-grows (come_later p timeout) crew.client l c (come_later p timeout) (inl refl)))
performer-grows s crew p l a_client = chosen-grows p (asks_now s p l) (λ c. after_look p crew.client l c p) (λ c. looked-grows p crew.client l c p (inl refl))
performer-grows s crew p l the_launcher = chosen-grows p (asks_now s p l) (λ c. after_look p crew.launcher l c p) (λ c. looked-grows p crew.launcher l c p (inl refl))
performer-grows s crew p l the_reaper = chosen-grows p (asks_now s p l) (λ c. after_look p crew.reaper l c p) (λ c. looked-grows p crew.reaper l c p (inl refl))

pub line-grows : (s : Script) (crew : plays.Crew) (p : Playing) (l : Line) → Grows p.entries (play_line s crew p l).entries
unfolding Grows
line-grows s crew p l =
    elim p.full as (λ o. Grows p.entries (choose o (λ size. p) (play_by s crew p l (performer_of l))).entries) [
      | None ↦ performer-grows s crew p l (performer_of l)
      | Some n ↦ inl refl
    ]

-- with what stands before it, too
behind-grows : (first before after : List Entry) → Grows before after → Grows (first ++ before) (first ++ after)
unfolding Grows
behind-grows first before after (inl same) = inl (ap (λ (es : List Entry). first ++ es) same)
behind-grows first before after (inr (e, is)) = inr (e, ap (λ (es : List Entry). first ++ es) is ∙ sym (append_assoc first before (e ∷ [])))

-- a line that was played
pub goes-on : (s : Script) (crew : plays.Crew) (old new : View) (l : Line) → IsNoted old → GoesTo old (play_line s crew (playing old) l) new → GoesOn old.ledger new.ledger
unfolding Grows
goes-on s crew old new l noted goes =
    let first : List Entry = old.start.entries in
    let before : List Entry = added_to old.start old.ledger.history in
    let after : List Entry = added_to new.start new.ledger.history in
    let now : new.ledger.history ≡ first ++ after = goes.noted.whole ∙ ap (λ (st : Start). st.entries ++ after) goes.start in
    let grown : Grows before after = subst (λ (p : Playing). Grows before p.entries) (sym goes.played) (line-grows s crew (playing old) l) in
    record {
      config = goes.config;
      more = subst (λ (es : List Entry). Grows es new.ledger.history) (sym noted.whole) (subst (Grows (first ++ before)) (sym now) (behind-grows first before after grown));
    }

-- ---- entries

-- the entry behind a list, and none behind its end
get-last : (xs : List Entry) (e : Entry) → slice_get (xs ++ e ∷ []) (length xs) ≡ Some e
get-last [] e = refl
get-last (x ∷ xs) e = get-last xs e

get-past : (xs : List Entry) → slice_get xs (length xs) ≡ None
get-past [] = refl
get-past (x ∷ xs) = get-past xs

-- ---- the places

placed-none : (earlier : ℕ) (config : Config) (before after : List Entry) (places : List (Option ℕ)) → Grows before after → number_of (slice_get after (length before)) ≡ None → ArePlacedAfter earlier config before places
    → ArePlacedAfter earlier config after places
unfolding Grows
placed-none earlier config before after places (inl same) none p = subst (λ (h : List Entry). ArePlacedAfter earlier config h places) (sym same) p
placed-none earlier config before after places (inr (e, is)) none p =
    let none_in : number_in e.reply ≡ None = sym (ap number_of (ap (λ (h : List Entry). slice_get h (length before)) is ∙ get-last before e)) ∙ none in
    subst (λ (h : List Entry). ArePlacedAfter earlier config h places) (sym is) (placed-same earlier config before places e (number-none e.reply none_in) p)

placed-some : (earlier : ℕ) (config : Config) (before after : List Entry) (places : List (Option ℕ)) (m : ℕ) → IsLegal config after → Grows before after → number_of (slice_get after (length before)) ≡ Some m
    → earlier ≤ registrations_of config before → ArePlacedAfter earlier config before places → IsPlacedNow earlier config after places m
unfolding Grows
placed-some earlier config before after places m legal (inl same) some registered p =
    absurd (let none : number_of (slice_get after (length before)) ≡ None = ap number_of (ap (λ (h : List Entry). slice_get h (length before)) same ∙ get-past before) in cc)
placed-some earlier config before after places m legal (inr (e, is)) some registered p =
    let some_in : number_in e.reply ≡ Some m = sym (ap number_of (ap (λ (h : List Entry). slice_get h (length before)) is ∙ get-last before e)) ∙ some in
    subst (λ (h : List Entry). IsPlacedNow earlier config h places m) (sym is)
    (placed-new earlier config before places e m (subst (IsLegal config) is legal) (number-some e.reply m some_in) registered p)

-- ---- the changes

-- those that there were come first
record AreFirst (config : Config) (before after : List Entry) : Type 0 where
  first : (replay config before).plan.changes ≡ take (length (replay config before).plan.changes) (replay config after).plan.changes
  fewer : length (replay config before).plan.changes ≤ length (replay config after).plan.changes

are-first : (config : Config) (before after : List Entry) → IsLegal config after → Grows before after → AreFirst config before after
unfolding Grows
are-first config before after legal (inl same) =
    subst (λ (h : List Entry). AreFirst config before h) (sym same)
    (record { first = sym (take_all (length (replay config before).plan.changes) (replay config before).plan.changes (omega arith)); fewer = omega arith })
are-first config before after legal (inr (e, is)) =
    let legal_now = subst (IsLegal config) is legal in
    let ok = legal-consistent config before (legal-prefix config before (e ∷ []) legal_now) in
    let edges = step-edges (replay config before) e (replay config (before ++ e ∷ [])) ok (legal-last config before e legal_now) in
    let old = (replay config before).plan.changes in
    subst (λ (h : List Entry). AreFirst config before h) (sym is) (record {
      first = sym (ap (take (length old)) edges.gained ∙ (take-append-le (length old) old edges.added (omega arith) ∙ take_all (length old) old (omega arith)));
      fewer = (let n = ap length edges.gained in let k = length-append old edges.added in omega arith);
    })

-- ---- all of a line

-- a number that its last entry registers has the place behind all changes, which are no fewer than those that were handed over
pub record IsRegistered {B : Type 0} (earlier : ℕ) (now : Ledger) (ears : Listening B) (m : ℕ) : Type 0 where
  pub least : 1 ≤ m
  pub most : m ≤ 64
  pub free : place_at ears.places (m - 1) ≡ None
  pub ahead : length ears.handed ≤ length (now_of now).plan.changes
  pub places_are : ArePlacedAfter earlier now.config now.history (slice_set ears.places (m - 1) (Some (length (now_of now).plan.changes)))

module _ {B : Type 0} (counted : B → ℕ) (told : B → Option (List Notification)) (earlier entries changes : ℕ) (now : Ledger) (ears : Listening B) (behind : AreBehind counted told earlier entries changes now ears) where
  current : AreCurrentAfter counted told earlier (record { config = now.config; history = behind.before.history }) ears
  current = subst (λ (c : Config). AreCurrentAfter counted told earlier (record { config = c; history = behind.before.history }) ears) (sym behind.goes.config) behind.current

  count : changes ≡ length (replay now.config behind.before.history).plan.changes
  count = behind.changes_are ∙ ap (λ (c : Config). length (replay c behind.before.history).plan.changes) (sym behind.goes.config)

  registered : earlier ≤ registrations_of now.config behind.before.history
  registered = subst (λ (c : Config). earlier ≤ registrations_of c behind.before.history) (sym behind.goes.config) behind.registered

  pub handed-first : IsLegal now.config now.history → ears.handed ≡ take changes (now_of now).plan.changes
  unfolding Grows
  handed-first legal =
      current.handed ∙ ((are-first now.config behind.before.history now.history legal behind.goes.more).first
      ∙ ap (λ (n : ℕ). take n (replay now.config now.history).plan.changes) (sym count))

  pub handed-count : length ears.handed ≡ changes
  handed-count = ap length current.handed ∙ sym count

  pub nothing-registered : number_of (slice_get now.history entries) ≡ None → ArePlacedAfter earlier now.config now.history ears.places
  unfolding Grows
  nothing-registered none =
      placed-none earlier now.config behind.before.history now.history ears.places behind.goes.more (subst (λ (n : ℕ). number_of (slice_get now.history n) ≡ None) behind.entries_are none) current.places

  pub registered-now : (m : ℕ) → IsLegal now.config now.history → number_of (slice_get now.history entries) ≡ Some m → IsRegistered earlier now ears m
  unfolding Grows
  registered-now m legal some =
      let now_placed = placed-some earlier now.config behind.before.history now.history ears.places m legal behind.goes.more (subst (λ (n : ℕ). number_of (slice_get now.history n) ≡ Some m) behind.entries_are some) registered current.places in
      record {
        least = now_placed.least;
        most = now_placed.most;
        free = now_placed.free;
        ahead = (let f = (are-first now.config behind.before.history now.history legal behind.goes.more).fewer in let e = ap length current.handed in omega arith);
        places_are = now_placed.places_are;
      }

-- so many callbacks that there were before the play are registered in each world of it
pub registered-before : (ledger : Ledger) (start : Start) (attempts : List (ℕ × ℕ)) → IsLegal ledger.config ledger.history → AreNotes ledger start attempts → start.callbacks ≤ registrations_of ledger.config ledger.history
registered-before ledger start attempts legal noted =
    let added : List Entry = added_to start ledger.history in
    let fewer = no-fewer ledger.config start.entries added (subst (IsLegal ledger.config) noted.whole legal) in
    subst (λ (n : ℕ). n ≤ registrations_of ledger.config ledger.history) (sym noted.callbacks)
    (subst (λ (es : List Entry). registrations_of ledger.config start.entries ≤ registrations_of ledger.config es) (sym noted.whole) fewer)

-- before the first line, where the machine has served nothing
pub current-first : {B : Type 0} (counted : B → ℕ) (told : B → Option (List Notification)) (config : Config) (callbacks : List B) → HaveHeard counted told (silent callbacks) → AreCurrent counted told (record { config = config; history = [] }) (silent callbacks)
current-first counted told config callbacks heard = record { places = hub_places.placed-first config; handed = refl; heard = heard }

-- and where it has, and its changes were passed over
pub passed-over : {B : Type 0} (counted : B → ℕ) (told : B → Option (List Notification)) (ledger : Ledger) (start : Start) (old new : Listening B) → IsLegal ledger.config ledger.history → start ≡ start_of ledger → old ≡ silent old.begun
    → new ≡ record old { callbacks = new.callbacks; handed = (now_of ledger).plan.changes } → HaveHeard counted told new → AreCurrentAfter counted told start.callbacks ledger new
passed-over {B = B} counted told ledger start old new legal is silently passed heard = record {
  places = subst (λ (st : Start). ArePlacedAfter st.callbacks ledger.config ledger.history new.places) (sym is)
      (subst (ArePlacedAfter (registrations_of ledger.config ledger.history) ledger.config ledger.history)
      (sym (ap (λ (e : Listening B). e.places) passed ∙ ap (λ (e : Listening B). e.places) silently)) (placed-first ledger.config ledger.history legal));
  handed = ap (λ (e : Listening B). e.handed) passed;
  heard = heard;
}

-- ---- batches

take-own : (m : ℕ) (xs : List Change) → take m xs ≡ take (length (take m xs)) xs
take-own zero xs = refl
take-own (suc m) [] = refl
take-own (suc m) (x ∷ xs) = ap (λ (ys : List Change). x ∷ ys) (take-own m xs)

-- the first ones, and a batch of those behind them
pub take-both : (n m : ℕ) (xs : List Change) → n ≤ length xs → take n xs ++ take m (drop n xs) ≡ take (n + length (take m (drop n xs))) xs
take-both zero m xs within = take-own m xs ∙ ap (λ (k : ℕ). take k xs) (let e : length (take m xs) ≡ 0 + length (take m xs) = omega arith in e)
take-both (suc n) m [] within = absurd (omega (arith, within))
take-both (suc n) m (x ∷ xs) within =
    ap (λ (ys : List Change). x ∷ ys) (take-both n m xs (omega (arith, within)))
    ∙ ap (λ (k : ℕ). take k (x ∷ xs)) (let e : suc (n + length (take m (drop n xs))) ≡ suc n + length (take m (drop n xs)) = omega arith in e)

-- ---- lines

-- a line further, the lines that are left lead to where all of them do
pub record LeadsOn (s : Script) (crew : plays.Crew) (first new : View) (ls : List Line) (i : ℕ) : Type 0 where
  pub played : plays.play_lines s crew (playing new) (drop (i + 1) ls) ≡ plays.play_lines s crew (playing first) ls
  pub config : new.ledger.config ≡ first.ledger.config
  pub start : new.start ≡ first.start
  pub noted : IsNoted new

pub leads-on : (s : Script) (crew : plays.Crew) (first old new : View) (ls : List Line) (i : ℕ) (l : Line) → drop i ls ≡ l ∷ drop (i + 1) ls
    → plays.play_lines s crew (playing old) (drop i ls) ≡ plays.play_lines s crew (playing first) ls → old.ledger.config ≡ first.ledger.config → old.start ≡ first.start → GoesTo old (play_line s crew (playing old) l) new
    → LeadsOn s crew first new ls i
leads-on s crew first old new ls i l is before config start goes = record {
  played = ap (λ (p : Playing). plays.play_lines s crew p (drop (i + 1) ls)) goes.played
      ∙ (sym (ap (plays.play_lines s crew (playing old)) is) ∙ before);
  config = goes.config ∙ config;
  start = goes.start ∙ start;
  noted = goes.noted;
}
