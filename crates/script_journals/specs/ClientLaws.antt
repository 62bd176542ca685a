-- No line of a script for threads asks what the launcher or the reaper asks.
use Rattle.std.proofs.Common.{◌≡◌, ℕ, zero, suc, ◌&&◌, ◌||◌, not, Bool, true, false, inl, inr, List, [], ◌∷◌, ◌++◌, take, Some, refl, sym, ap, subst, ◌∙◌}
use Rattle.std.specs.List.{AllByRecursion, slice_get}
use Rattle.std.proofs.lemmas.Option.{none-some, same_Some}
use Rattle.drmaa_types.specs.declared.queues.QueueSpec.{QueueSpec}
use Rattle.drmaa_model.specs.declared.calls.Call.{Call}
use Rattle.drmaa_model.specs.declared.calls.Call.TheVariants as call
use Rattle.drmaa_model.specs.declared.entries.Entry.{Entry}
use Rattle.drmaa_model.specs.RecordedCalls.{recorded}
use Rattle.drmaa_model.specs.RowLaws.{all-push}
use Rattle.text_codec.specs.StepLaws.{both}
use Rattle.script_lines.specs.declared.lines.Line.{Line}
use Rattle.script_text.specs.declared.scripts.Mode.{Mode}
use Rattle.script_text.specs.declared.scripts.Mode.TheVariants as mode
use Rattle.script_text.specs.declared.scripts.Script.{Script}
use Rattle.script_text.specs.Follows.{lines_of, belongs, may_follow, is_wait, is_serial_line, is_register}
use Rattle.script_text.specs.Scripts.{Follow, Part, After, Makes, begun, Spells}
use Rattle.script_text.specs.Scripts.Part.{Job, Reservation, Lines}
use Rattle.script_asks.specs.declared.given.Given.{Given}
use Rattle.script_asks.specs.Plays.{no_attempt, IsAsked, Plays, PlaysPart}
use Rattle.script_asks.specs.Replies.{names_after}
use Rattle.script_journals.specs.AskedLaws.{asks-own}
use Rattle.script_journals.specs.Calls.{is_attendants, IsClientsEntry, IsBlockOf}

-- ---- the lines of blocks

-- each line belongs to such a block
unfoldable pub AllBelong : Mode → Bool → List Line → Type 0
AllBelong m in_setup ls = AllByRecursion (λ l. belongs m in_setup l ≡ true) ls

pub record BlocksBelong (m : Mode) (s : Script) : Type 0 where
  pub setup : AllBelong m true (lines_of s.setup)
  pub clients : AllByRecursion (AllBelong m false) s.clients

follow-belongs : (m : Mode) (in_setup : Bool) (s : Script) (earlier ls : List Line) → Follow m in_setup s earlier ls → AllBelong m in_setup ls
unfolding AllBelong
follow-belongs m in_setup s earlier [] follow = tt
follow-belongs m in_setup s earlier (l ∷ ls) follow = ((both (belongs m in_setup l) (may_follow s earlier l) follow.0.1).0, follow-belongs m in_setup s (earlier ++ l ∷ []) ls follow.1)

after-belongs : (m : Mode) (s : Script) (p : Part) (t : Script) → After m s p t → BlocksBelong m s → BlocksBelong m t
after-belongs m s (Job n fs) t (d, is, early, new, named, valid, same) blocks = subst (BlocksBelong m) (sym same) (record { setup = blocks.setup; clients = blocks.clients })
after-belongs m s (Reservation n fs) t (r, is, early, new, named, valid, same) blocks = subst (BlocksBelong m) (sym same) (record { setup = blocks.setup; clients = blocks.clients })
after-belongs m s (Lines true ls) t (opens, follow, same) blocks =
    subst (BlocksBelong m) (sym same) (record { setup = follow-belongs m true s (lines_of s.setup) ls follow; clients = blocks.clients })
after-belongs m s (Lines false ls) t (opens, follow, same) blocks =
    subst (BlocksBelong m) (sym same) (record {
      setup = blocks.setup;
      clients = all-push (AllBelong m false) s.clients ls blocks.clients (follow-belongs m false s (lines_of s.setup) ls follow);
    })

makes-belongs : (m : Mode) (s : Script) (ps : List Part) (t : Script) → Makes m s ps t → BlocksBelong m s → BlocksBelong m t
makes-belongs m s [] t is blocks = subst (BlocksBelong m) is blocks
makes-belongs m s (p ∷ ps) t (u, first, rest) blocks = makes-belongs m u ps t rest (after-belongs m s p u first blocks)

no-blocks : (m : Mode) (machine : ℕ × (List ℕ × Bool)) (queues : List QueueSpec) → BlocksBelong m (begun machine queues)
unfolding AllBelong
no-blocks m machine queues = record { setup = tt; clients = tt }

pub spelled-belongs : (m : Mode) (lines : List (List ℕ)) (s : Script) → Spells m lines s → BlocksBelong m s
spelled-belongs m lines s is = makes-belongs m (begun is.machine is.queues) is.parts s is.makes (no-blocks m is.machine is.queues)

pub is_not : (b : Bool) → not b ≡ true → b ≡ false
is_not false h = refl
is_not true h = absurd (cc)

-- an item of a list that has a property throughout
pub item-all : {A : Type 0} (P : A → Type 0) (xs : List A) (n : ℕ) (x : A) → AllByRecursion P xs → slice_get xs n ≡ Some x → P x
item-all P [] n x all is = absurd (none-some x is)
item-all P (y ∷ ys) zero x all is = subst P (same_Some y x is) all.0
item-all P (y ∷ ys) (suc n) x all is = item-all P ys n x all.1 is

-- its first items
pub first-all : {A : Type 0} (P : A → Type 0) (n : ℕ) (xs : List A) → AllByRecursion P xs → AllByRecursion P (take n xs)
first-all P zero xs all = tt
first-all P (suc n) [] all = tt
first-all P (suc n) (x ∷ xs) all = (all.0, first-all P n xs all.1)

-- no line is one that a serial script has alone
abbrev IsPlain : Line → Type 0
IsPlain l = is_serial_line l ≡ false

none-serial : (in_setup : Bool) (ls : List Line) → AllBelong mode.Threads in_setup ls → AllByRecursion IsPlain ls
unfolding AllBelong
none-serial in_setup [] all = tt
none-serial in_setup (l ∷ ls) all =
    let plain = both (not (in_setup && is_wait l) && not (is_serial_line l)) (in_setup || not (is_register l)) all.0 in
    (is_not (is_serial_line l) (both (not (in_setup && is_wait l)) (not (is_serial_line l)) plain.0).1, none-serial in_setup ls all.1)

block-serial : (lines : List (List ℕ)) (s : Script) (block : List Line) → Spells mode.Threads lines s → IsBlockOf s block → AllByRecursion IsPlain block
block-serial lines s block is (inl setup) = subst (AllByRecursion IsPlain) (sym setup) (none-serial true (lines_of s.setup) (spelled-belongs mode.Threads lines s is).setup)
block-serial lines s block is (inr (n, client)) = none-serial false block (item-all (AllBelong mode.Threads false) s.clients n block (spelled-belongs mode.Threads lines s is).clients client)

-- ---- what lines ask

-- a property of what lines of one sort ask is one of all entries of a block that has no other lines
pub plays-each : (Q : Line → Type 0) (P : Entry → Type 0) (s : Script) → ((names : List (List ℕ × Given)) (before : ℕ) (l : Line) (e : Entry) → Q l → IsAsked s names before l e → P e)
    → (names : List (List ℕ × Given)) (before : ℕ) (ls : List Line) (es : List Entry) → AllByRecursion Q ls → Plays s names before ls es → AllByRecursion P es
plays-each Q P s each names before [] es all is = subst (AllByRecursion P) (sym is) tt
plays-each Q P s each names before (l ∷ ls) es all (inl (nothing, rest)) = plays-each Q P s each names before ls es all.1 rest
plays-each Q P s each names before (l ∷ ls) es all (inr (e, rest, same, asked, more)) =
    subst (AllByRecursion P) (sym same) (each names before l e all.0 asked, plays-each Q P s each (names_after l e.reply names) e.at ls rest all.1 more)

-- what is asked is kept as such
recorded-attendants : (c : Call) → is_attendants (recorded c) ≡ is_attendants c
recorded-attendants call.Register = refl
recorded-attendants _ = refl

asked-clients : (s : Script) (names : List (List ℕ × Given)) (before : ℕ) (l : Line) (e : Entry) → IsPlain l → IsAsked s names before l e → IsClientsEntry e
asked-clients s names before l e plain is = ap is_attendants is.same ∙ recorded-attendants is.call ∙ (asks-own s names no_attempt is.begun l is.call is.asked).0 ∙ plain

pub block-clients : (lines : List (List ℕ)) (s : Script) (names : List (List ℕ × Given)) (before : ℕ) (block : List Line) (es : List Entry)
    → Spells mode.Threads lines s → IsBlockOf s block → Plays s names before block es → AllByRecursion IsClientsEntry es
block-clients lines s names before block es is of plays = plays-each IsPlain IsClientsEntry s (asked-clients s) names before block es (block-serial lines s block is of) plays

pub part-clients : (lines : List (List ℕ)) (s : Script) (names : List (List ℕ × Given)) (before : ℕ) (block : List Line) (es : List Entry)
    → Spells mode.Threads lines s → IsBlockOf s block → PlaysPart s names before block es → AllByRecursion IsClientsEntry es
part-clients lines s names before block es is of (n, plays) =
    plays-each IsPlain IsClientsEntry s (asked-clients s) names before (take n block) es (first-all IsPlain n block (block-serial lines s block is of)) plays
