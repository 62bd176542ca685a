-- Laws of warnings that are found line by line.
use Rattle.std.proofs.Common.{◌≡◌, ℕ, ◌+◌, ◌<◌, ◌||◌, ◌&&◌, not, Bool, List, [], ◌∷◌, ◌++◌, length, get_or, take, drop, sym, ap, subst, ◌∙◌, append_assoc, append-nil}
use Rattle.std.proofs.lemmas.Grind.{flat_map-append}
use Rattle.std.proofs.lemmas.List.{drop_more, take_more}
use Rattle.script_lines.specs.declared.lines.Line.{Line}
use Rattle.script_text.specs.declared.scripts.Script.{Script}
use Rattle.script_text.specs.Names.{is_there}
use Rattle.script_text.specs.Follows.{lines_of}
use Rattle.script_advice.specs.declared.finding.Holds.{Holds}
use Rattle.script_advice.specs.declared.gathering.Sort.{Sort}
use Rattle.script_advice.specs.declared.gathering.Sort.TheVariants.{Awaited, LetGo, Held}
use Rattle.script_advice.specs.declared.warning_kinds.Place.{Place}
use Rattle.script_advice.specs.declared.warning_kinds.Place.TheVariants.{Setup, Client}
use Rattle.script_advice.specs.declared.warning_kinds.Warning.{Warning}
use Rattle.script_advice.specs.Roles.{role}
use Rattle.script_advice.specs.NameSets.{is_among, Set, Extends}
use Rattle.script_advice.specs.NameSetLaws.{extends_twice, filled_test}
use Rattle.script_advice.specs.Holds.{stays_in, AreHolds, AreSetupHolds}
use Rattle.script_advice.specs.Warnings.{names_at, names_in, names_anywhere, unwaited_at, unwaited, endless_at, endless, stays_held, of_client, of_clients, warnings}

-- ---- what stays held

one_more : (sort : Sort) (s : Script) (before : List Line) (l : Line) (old new : Set) → Extends [] old (names_in sort s before) → Extends old new (names_at sort s l)
    → Extends [] new (names_in sort s (before ++ l ∷ []))
one_more sort s before l old new all here =
    let names : names_in sort s (before ++ l ∷ []) ≡ names_in sort s before ++ names_at sort s l =
    flat_map-append (names_at sort s) before (l ∷ []) ∙ ap (λ t. names_in sort s before ++ t) (append-nil (names_at sort s l)) in
    subst (Extends [] new) (sym names) (extends_twice [] old new (names_in sort s before) (names_at sort s l) all here)

holds_more : (s : Script) (before : List Line) (l : Line) (old new : Holds) → AreHolds s before old → Extends old.held new.held (names_at Held s l)
    → Extends old.let_go new.let_go (names_at LetGo s l) → AreHolds s (before ++ l ∷ []) new
holds_more s before l old new are held let_go = record {
  held = one_more Held s before l old.held new.held are.held held;
  let_go = one_more LetGo s before l old.let_go new.let_go are.let_go let_go;
}

pub holds_next : (s : Script) (i : ℕ) (ls : List Line) (l : Line) (old new : Holds) → i < length ls → l ≡ get_or ls i l → AreHolds s (take i ls) old
    → Extends old.held new.held (names_at Held s l) → Extends old.let_go new.let_go (names_at LetGo s l) → AreHolds s (take (i + 1) ls) new
holds_next s i ls l old new small here are held let_go =
    let longer : take i ls ++ l ∷ [] ≡ take (i + 1) ls = ap (λ y. take i ls ++ y ∷ []) here ∙ sym (take_more ls i l small) in
    subst (λ ks. AreHolds s ks new) longer (holds_more s (take i ls) l old new are held let_go)

-- what the names tell is what is so
pub same_stays : (s : Script) (before : List Line) (earlier of_setup : Holds) → AreHolds s before earlier → AreSetupHolds s of_setup → stays_in earlier of_setup ≡ stays_held s before
same_stays s before earlier of_setup are setup =
    let a = filled_test earlier.held (names_in Held s before) are.held in
    let b = filled_test earlier.let_go (names_in LetGo s before) are.let_go in
    let d = filled_test of_setup.held (names_in Held s (lines_of s.setup)) setup.held in
    let e = filled_test of_setup.let_go (names_anywhere LetGo s) setup.let_go in
    λ i name. (a i name && not (b i name)) || (d i name && not (e i name))

-- ---- line by line

pub unwaited_more : (place : Place) (is_awaited : List ℕ → Bool) (i : ℕ) (ls : List Line) (l : Line) (a b all : List Warning) → drop i ls ≡ l ∷ drop (i + 1) ls
    → b ≡ a ++ unwaited_at place is_awaited (role l) → a ++ unwaited place is_awaited (drop i ls) ≡ all → b ++ unwaited place is_awaited (drop (i + 1) ls) ≡ all
unwaited_more place is_awaited i ls l a b all left found so_far =
    let rest = unwaited place is_awaited (drop (i + 1) ls) in
    ap (λ t. t ++ rest) found
    ∙ append_assoc a (unwaited_at place is_awaited (role l)) rest
    ∙ ap (λ ks. a ++ unwaited place is_awaited ks) (sym left)
    ∙ so_far

pub endless_more : (place : Place) (s : Script) (i : ℕ) (ls : List Line) (l : Line) (a b all : List Warning) → i < length ls → l ≡ get_or ls i l
    → b ≡ a ++ endless_at place (stays_held s (take i ls)) (role l) → a ++ endless place s (take i ls) (drop i ls) ≡ all
    → b ++ endless place s (take (i + 1) ls) (drop (i + 1) ls) ≡ all
endless_more place s i ls l a b all small here found so_far =
    let before = take i ls in
    let rest = drop (i + 1) ls in
    let left : drop i ls ≡ l ∷ rest = drop_more ls i l small ∙ ap (λ y. y ∷ rest) (sym here) in
    let longer : take (i + 1) ls ≡ before ++ l ∷ [] = take_more ls i l small ∙ ap (λ y. before ++ y ∷ []) (sym here) in
    ap (λ t. t ++ endless place s (take (i + 1) ls) rest) found
    ∙ ap (λ t. (a ++ endless_at place (stays_held s before) (role l)) ++ endless place s t rest) longer
    ∙ append_assoc a (endless_at place (stays_held s before) (role l)) (endless place s (before ++ l ∷ []) rest)
    ∙ ap (λ t. a ++ endless place s before t) (sym left)
    ∙ so_far

-- ---- client by client

pub client_found : (s : Script) (n : ℕ) (lines : List Line) (set : Set) (a b d : List Warning) → Extends [] set (names_in Awaited s lines)
    → b ≡ a ++ unwaited (Client n) (is_there set) lines → d ≡ b ++ endless (Client n) s [] lines → d ≡ a ++ of_client s n lines
client_found s n lines set a b d made first second =
    second
    ∙ ap (λ t. t ++ endless (Client n) s [] lines) (first ∙ ap (λ t. a ++ unwaited (Client n) t lines) (filled_test set (names_in Awaited s lines) made))
    ∙ append_assoc a (unwaited (Client n) (is_among (names_in Awaited s lines)) lines) (endless (Client n) s [] lines)

pub clients_more : (s : Script) (i : ℕ) (cs : List (List Line)) (c : List Line) (a b all : List Warning) → i < length cs → c ≡ get_or cs i c
    → b ≡ a ++ of_client s (i + 1) c → a ++ of_clients s (i + 1) (drop i cs) ≡ all → b ++ of_clients s (i + 1 + 1) (drop (i + 1) cs) ≡ all
clients_more s i cs c a b all small here found so_far =
    let rest = drop (i + 1) cs in
    let left : drop i cs ≡ c ∷ rest = drop_more cs i c small ∙ ap (λ y. y ∷ rest) (sym here) in
    ap (λ t. t ++ of_clients s (i + 1 + 1) rest) found
    ∙ append_assoc a (of_client s (i + 1) c) (of_clients s (i + 1 + 1) rest)
    ∙ ap (λ t. a ++ of_clients s (i + 1) t) (sym left)
    ∙ so_far

-- ---- all of them

pub all_found : (s : Script) (set : Set) (a b d e : List Warning) → a ≡ [] → Extends [] set (names_anywhere Awaited s)
    → b ≡ a ++ unwaited Setup (is_there set) (lines_of s.setup) → d ≡ b ++ of_clients s 1 s.clients → e ≡ d → e ≡ warnings s
all_found s set a b d e none made first second same =
    let test = filled_test set (names_anywhere Awaited s) made in
    let of_setup : b ≡ unwaited Setup (is_among (names_anywhere Awaited s)) (lines_of s.setup) =
    first ∙ ap (λ t. t ++ unwaited Setup (is_there set) (lines_of s.setup)) none ∙ ap (λ t. unwaited Setup t (lines_of s.setup)) test in
    same ∙ second ∙ ap (λ t. t ++ of_clients s 1 s.clients) of_setup
