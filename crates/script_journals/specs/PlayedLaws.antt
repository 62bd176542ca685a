-- The journal of a script's play may be printed, and read again.
use Rattle.std.proofs.Common.{◌≡◌, ℕ, ◌+◌, Bool, true, false, cond, nat_le, List, [], ◌∷◌, ◌++◌, length, map, Option, Some, None, refl, sym, ap, subst, ◌∙◌}
use Rattle.std.specs.List.{AllByRecursion}
use Rattle.drmaa_types.specs.declared.identifiers.CallerId.{CallerId}
use Rattle.drmaa_types.specs.declared.queues.QueueSpec.{QueueSpec}
use Rattle.drmaa_types.specs.Queues.{are_queues}
use Rattle.drmaa_model.specs.declared.calls.Call.{Call}
use Rattle.drmaa_model.specs.declared.configs.Config.{Config}
use Rattle.drmaa_model.specs.declared.entries.Entry.{Entry}
use Rattle.drmaa_model.specs.declared.replies.Reply.{Reply}
use Rattle.drmaa_model.specs.Effects.{StepAnswer, gives, nothing, not_yet}
use Rattle.drmaa_model.specs.RecordedCalls.{recorded}
use Rattle.drmaa_model.specs.RowLaws.{all-push}
use Rattle.drmaa_model.specs.Size.{size}
use Rattle.drmaa_model.specs.Steps.{answer}
use Rattle.drmaa_model.specs.World.{World, opening_world}
use Rattle.text_codec.specs.Formats.{choose, checked}
use Rattle.journal_forms.specs.Calls.{has_others}
use Rattle.journal_text.specs.Journals.{is_machine, machine_of}
use Rattle.journal_text.specs.Printing.{MayStand, IsPrintable}
use Rattle.script_lines.specs.declared.lines.Line.{Line}
use Rattle.script_text.specs.declared.scripts.Mode.{Mode}
use Rattle.script_text.specs.declared.scripts.Script.{Script}
use Rattle.script_text.specs.Follows.{lines_of}
use Rattle.script_text.specs.Header.{header, config_of}
use Rattle.script_text.specs.Scripts.{Part, After, Makes, begun, Spells}
use Rattle.script_text.specs.Scripts.Part.{Job, Reservation, Lines}
use Rattle.script_asks.specs.declared.given.Given.{Given}
use Rattle.script_asks.specs.Plays.{Playing, Crew, Performer, crew_of, performer_of, entered, after_answer, after_look, come_later, second_look, asks_now, play_by, play_line, play_lines, play_clients, opening_in, after_setup_from, serial_play_from, serial_play}
use Rattle.script_asks.specs.Plays.Performer.{sets, waits, a_client, the_launcher, the_reaper}
use Rattle.script_asks.specs.Replies.{names_after, last_attempt}
use Rattle.script_journals.specs.AnsweredLaws.{answer-stands}
use Rattle.script_journals.specs.AskedLaws.{HasOthers, makes-others, Asks, asks-holds}
use Rattle.script_journals.specs.RecordedLaws.{recorded-twice, recorded-others}

-- ---- the play

AllStand : Playing → Type 0
AllStand p = AllByRecursion MayStand p.entries

entered-stands : (p : Playing) (caller : CallerId) (l : Line) (c : Call) (r : Reply) (next : World) → has_others c ≡ true → AllStand p → answer p.world p.moment (recorded c) ≡ gives r next → AllStand (entered p caller l c r next)
unfolding AllStand
entered-stands p caller l c r next has all is =
    elim (nat_le (size next) p.world.config.journal) as (λ b. AllStand (cond b (record p {
      world = next;
      names = names_after l r p.names;
      entries = p.entries ++ record { caller = caller; at = p.moment; call = recorded c; reply = r } ∷ [];
    }) (record p { full = Some (size next) }))) [
      | true ↦ all-push MayStand p.entries (record { caller = caller; at = p.moment; call = recorded c; reply = r }) all (record {
        call = recorded-twice c;
        others = recorded-others c ∙ has;
        reply = answer-stands p.world p.moment (recorded c) r next is;
      })
      | false ↦ all
    ]

answered-stands : (p : Playing) (caller : CallerId) (l : Line) (c : Call) (a : StepAnswer) (second : Playing) → has_others c ≡ true → AllStand p → AllStand second → answer p.world p.moment (recorded c) ≡ a → AllStand (after_answer p caller l c a second)
answered-stands p caller l c (gives r next) second has all then is = entered-stands p caller l c r next has all is
answered-stands p caller l c nothing second has all then is = all
answered-stands p caller l c not_yet second has all then is = then

look-stands : (p : Playing) (caller : CallerId) (l : Line) (c : Call) (second : Playing) → has_others c ≡ true → AllStand p → AllStand second → AllStand (after_look p caller l c second)
look-stands p caller l c second has all then = answered-stands p caller l c (answer p.world p.moment (recorded c)) second has all then refl

later-stands : (p : Playing) (timeout : ℕ) → AllStand p → AllStand (come_later p timeout)
unfolding AllStand
later-stands p timeout all = all

second-stands : (q : Playing) (caller : CallerId) (l : Line) (c : Call) → has_others c ≡ true → AllStand q → AllStand (second_look q caller l c)
second-stands q caller l c has all = look-stands q caller l c q has all all

chosen-stands : (p : Playing) (o : Option Call) (f : Call → Playing) → Asks (λ c. has_others c ≡ true) o → AllStand p → ((c : Call) → has_others c ≡ true → AllStand (f c)) → AllStand (choose o f p)
chosen-stands p None f holds all each = all
chosen-stands p (Some c) f holds all each = each c (holds c refl)

asks_now-holds : (s : Script) (p : Playing) (l : Line) → HasOthers s → Asks (λ c. has_others c ≡ true) (asks_now s p l)
asks_now-holds s p l has = asks-holds s p.names (λ job. last_attempt job (map (λ e. e.reply) p.entries)) p.moment l has

performer-stands : (s : Script) (crew : Crew) (p : Playing) (l : Line) (t : Performer) → HasOthers s → AllStand p → AllStand (play_by s crew p l t)
unfolding AllStand
performer-stands s crew p l (sets m) has all = all
performer-stands s crew p l (waits timeout) has all =
    chosen-stands p (asks_now s p l) (λ c. after_look p crew.client l c (second_look (come_later p timeout) crew.client l c)) (asks_now-holds s p l has) all (λ c holds.
    look-stands p crew.client l c (second_look (come_later p timeout) crew.client l c) holds all (second-stands (come_later p timeout) crew.client l c holds (later-stands p timeout all)))
performer-stands s crew p l a_client has all = chosen-stands p (asks_now s p l) (λ c. after_look p crew.client l c p) (asks_now-holds s p l has) all (λ c holds. look-stands p crew.client l c p holds all all)
performer-stands s crew p l the_launcher has all = chosen-stands p (asks_now s p l) (λ c. after_look p crew.launcher l c p) (asks_now-holds s p l has) all (λ c holds. look-stands p crew.launcher l c p holds all all)
performer-stands s crew p l the_reaper has all = chosen-stands p (asks_now s p l) (λ c. after_look p crew.reaper l c p) (asks_now-holds s p l has) all (λ c holds. look-stands p crew.reaper l c p holds all all)

line-stands : (s : Script) (crew : Crew) (p : Playing) (l : Line) → HasOthers s → AllStand p → AllStand (play_line s crew p l)
line-stands s crew p l has all =
    elim p.full as (λ o. AllStand (choose o (λ (n : ℕ). p) (play_by s crew p l (performer_of l)))) [
      | None ↦ performer-stands s crew p l (performer_of l) has all
      | Some n ↦ all
    ]

lines-stand : (s : Script) (crew : Crew) (p : Playing) (ls : List Line) → HasOthers s → AllStand p → AllStand (play_lines s crew p ls)
lines-stand s crew p [] has all = all
lines-stand s crew p (l ∷ ls) has all = lines-stand s crew (play_line s crew p l) ls has (line-stands s crew p l has all)

clients-stand : (s : Script) (names : List (List ℕ × Given)) (number : ℕ) (p : Playing) (bs : List (List Line)) → HasOthers s → AllStand p → AllStand (play_clients s names number p bs)
unfolding AllStand
clients-stand s names number p [] has all = all
clients-stand s names number p (b ∷ bs) has all =
    clients-stand s names (number + 1) (play_lines s (crew_of (length s.clients) number) (record p { names = names }) b) bs has
    (lines-stand s (crew_of (length s.clients) number) (record p { names = names }) b has all)

-- The entries of a play, from whatever world, may stand in a journal.
pub play_from-stands : (w : World) (s : Script) → HasOthers s → AllByRecursion MayStand (serial_play_from w s).entries
unfolding AllStand
play_from-stands w s has =
    clients-stand s (after_setup_from w s).names 1 (after_setup_from w s) s.clients has
    (lines-stand s (crew_of (length s.clients) 0) (opening_in w) (lines_of s.setup) has tt)

-- ---- the machine of a script

after-config : (m : Mode) (s : Script) (p : Part) (t : Script) → After m s p t → t.config ≡ s.config
after-config m s (Job n fs) t (d, is, early, new, named, valid, same) = ap (λ (x : Script). x.config) same
after-config m s (Reservation n fs) t (r, is, early, new, named, valid, same) = ap (λ (x : Script). x.config) same
after-config m s (Lines true ls) t (open_, follow, same) = ap (λ (x : Script). x.config) same
after-config m s (Lines false ls) t (open_, follow, same) = ap (λ (x : Script). x.config) same

makes-config : (m : Mode) (s : Script) (ps : List Part) (t : Script) → Makes m s ps t → t.config ≡ s.config
makes-config m s [] t is = ap (λ (x : Script). x.config) (sym is)
makes-config m s (p ∷ ps) t (u, first, rest) = makes-config m u ps t rest ∙ after-config m s p u first

machine-stands : (m : ℕ × (List ℕ × Bool)) (queues : List QueueSpec) → header.valid m → is_machine (machine_of (config_of m queues)) ≡ true
unfolding header checked
machine-stands m queues valid = valid.1

no-templates : (m : ℕ × (List ℕ × Bool)) (queues : List QueueSpec) → HasOthers (begun m queues)
no-templates m queues = record { jobs = tt; reservations = tt }

-- The machine of a script that lines spell is one of a journal.
pub spelled-printable : (mode : Mode) (lines : List (List ℕ)) (s : Script) (es : List Entry) → Spells mode lines s → AllByRecursion MayStand es → IsPrintable s.config es
spelled-printable mode lines s es is all =
    let same : s.config ≡ config_of is.machine is.queues = makes-config mode (begun is.machine is.queues) is.parts s is.makes in
    record {
      machine = subst (λ (c : Config). is_machine (machine_of c) ≡ true) (sym same) (machine-stands is.machine is.queues is.valid);
      queues = subst (λ (c : Config). are_queues c.slots c.queues ≡ true) (sym same) is.queued;
      size = ap (λ (c : Config). c.journal) same;
      entries = all;
    }

-- No template of such a script has an attribute of another form under `other`.
pub spelled-others : (mode : Mode) (lines : List (List ℕ)) (s : Script) → Spells mode lines s → HasOthers s
spelled-others mode lines s is = makes-others mode (begun is.machine is.queues) is.parts s is.makes (no-templates is.machine is.queues)

-- The journal of the play of a script that lines spell may be printed, and read again.
pub play-printable : (mode : Mode) (lines : List (List ℕ)) (s : Script) → Spells mode lines s → IsPrintable s.config (serial_play s).entries
play-printable mode lines s is = spelled-printable mode lines s (serial_play s).entries is (play_from-stands (opening_world s.config) s (spelled-others mode lines s is))
