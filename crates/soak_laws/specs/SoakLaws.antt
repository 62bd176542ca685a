-- The lines of a soak are a script's, and its bytes are that script's.
use Rattle.std.proofs.Common.{◌≡◌, ℕ, zero, suc, ◌<◌, ◌≤◌, nat_lt, true, false, List, [], ◌∷◌, ◌++◌, Option, Some, None, is_some, codes, lit<, refl, sym, ap, subst, ◌∙◌, arith, append-nil}
use Rattle.std.specs.List.{AllByRecursion}
use Rattle.std.specs.Map.{lookup}
use Rattle.std.specs.Str.{bytes_eq}
use Rattle.std.proofs.lemmas.Bool.Decides.{nat_tests}
use Rattle.drmaa_types.specs.Moments.{greatest}
use Rattle.job_template.specs.declared.templates.ReservationTemplate.{ReservationTemplate}
use Rattle.text_codec.specs.CleanLaws.{letters_clean}
use Rattle.text_codec.specs.Fields.{always, no_more}
use Rattle.text_codec.specs.Formats.{behind, checked, mapped, number, or_else, pair}
use Rattle.text_codec.specs.Integers.{integer}
use Rattle.text_codec.specs.Quotes.{text}
use Rattle.text_codec.specs.StepLaws.{by_test}
use Rattle.text_codec.specs.Words.{capitals, name}
use Rattle.text_dates.specs.Said.{said}
use Rattle.text_lines.specs.LineLaws.{ended_text}
use Rattle.text_lines.specs.Lines.{IsTextOf}
use Rattle.text_lines.specs.Skipping.{SpellsUnskipped}
use Rattle.text_codec.specs.TemplateParts.{resource_limit}
use Rattle.script_lines.specs.Shapes.{said_fields, text_fields}
use Rattle.script_lines.specs.TemplateFields.{beginning, beginning_fields, count_fields, duration_fields, integer_fields, limit_fields}
use Rattle.script_lines.specs.Templates.{IsJobField, IsReservationField}
use Rattle.script_text.specs.declared.scripts.Mode.TheVariants.{Serial}
use Rattle.script_text.specs.declared.scripts.Script.{Script}
use Rattle.script_text.specs.Header.{header, suspend}
use Rattle.script_text.specs.NameLaws.{either, lookup-append}
use Rattle.script_text.specs.Scripts.{Part, Lines, Makes, Spells, begun}
use Rattle.soak_script.specs.Draws.{draw, template_of}
use Rattle.soak_script.specs.Lines.{soak_script, soak_text}
use Rattle.soak_laws.specs.FollowLaws.{standing, IsFrame, client_follows}
use Rattle.soak_laws.specs.LineTexts.{short_fields, wide_fields, long_fields, first_parts, frame_fields, frame_parts, parts_at, parts_of, script_spelled}
use Rattle.soak_laws.specs.NameLaws.{apart, is_numbered, itself}
use Rattle.soak_laws.specs.Scripts.{template_name, frame_of, frames_by, frames_at, for_steps, client_of, soak_of}
use Rattle.soak_laws.specs.ShownLaws.{shown_lines, shown_readable, shown_unskipped, script_shown}
use Rattle.soak_laws.specs.SizeLaws.{script_size}

-- ---- the templates of reservations: each has a name of its own, and each step that is no run has one

either_first : {A : Type 0} (a b : Option A) → is_some a ≡ true → is_some (either a b) ≡ true
either_first None b h = cc
either_first (Some x) b h = refl

either_second : {A : Type 0} (a b : Option A) → is_some b ≡ true → is_some (either a b) ≡ true
either_second None b h = h
either_second (Some x) b h = refl

abbrev Frames : Type 0
Frames = List (List ℕ × ReservationTemplate)

other_frame : (m step : ℕ) (run : Option (List ℕ)) → m ≤ 100_000 → step ≤ 100_000 → step < m → lookup (bytes_eq (template_name m)) (frames_by step run) ≡ None
other_frame m step None h k l = rw (apart 120 m step h k (λ e. omega (arith, l, e))) refl
other_frame m step (Some template) h k l = refl

no_frame : (seed steps m : ℕ) → steps < m → m ≤ 100_000 → lookup (bytes_eq (template_name m)) (for_steps (frames_at seed) steps) ≡ None
no_frame seed zero m l h = refl
no_frame seed (suc step) m l h =
    lookup-append (bytes_eq (template_name m)) (for_steps (frames_at seed) step) (frames_at seed (suc step))
    ∙ rw (no_frame seed step m (omega (arith, l)) h, other_frame m (suc step) (template_of (draw seed (suc step))) h (omega (arith, l, h)) l) refl

own_frame : (step : ℕ) (run : Option (List ℕ)) → run ≡ None → IsFrame (frames_by step run) step
own_frame step None none = rw (itself (template_name step)) refl
own_frame step (Some template) none = cc

each_frame : (seed steps m : ℕ) → 0 < m → m ≤ steps → template_of (draw seed m) ≡ None → IsFrame (for_steps (frames_at seed) steps) m
each_frame seed zero m some l none = absurd (omega (arith, some, l))
each_frame seed (suc step) m some l none =
    let test = bytes_eq (template_name m) in
    let before = for_steps (frames_at seed) step in
    let here = frames_at seed (suc step) in
    let whole = ap is_some (lookup-append test before here) in
    by_test (nat_lt m (suc step))
    (λ t. let less : m ≤ step = grind (arith, nat_tests) in whole ∙ either_first (lookup test before) (lookup test here) (each_frame seed step m some less none))
    (λ f.
    let same : m ≡ suc step = grind (arith, nat_tests) in
    let mine : IsFrame here m = subst (λ n. IsFrame (frames_at seed n) m) same (own_frame m (template_of (draw seed m)) none) in
    whole ∙ either_second (lookup test before) (lookup test here) mine)

-- ---- the blocks make the script

makes_both : (s u t : Script) (ps qs : List Part) → Makes Serial s ps u → Makes Serial u qs t → Makes Serial s (ps ++ qs) t
makes_both s u t [] qs p q = subst (λ x. Makes Serial x qs t) (sym p) q
makes_both s u t (p ∷ ps) qs h q = (h.0, h.1, makes_both h.0 u t ps qs h.2 q)

short_valid : AllByRecursion IsJobField short_fields
unfolding text_fields limit_fields always no_more text resource_limit mapped pair capitals number
short_valid = (((letters_clean (codes "true") refl).utf8, tt), (((refl, lit< tt), tt), tt))

wide_valid : AllByRecursion IsJobField wide_fields
unfolding text_fields count_fields integer_fields limit_fields always no_more text integer resource_limit mapped pair capitals number
wide_valid = (((letters_clean (codes "true") refl).utf8, tt), ((lit< tt, tt), ((lit< tt, tt), (((refl, lit< tt), tt), tt))))

long_valid : AllByRecursion IsJobField long_fields
unfolding text_fields count_fields limit_fields always no_more text resource_limit mapped pair capitals number
long_valid = (((letters_clean (codes "true") refl).utf8, tt), ((lit< tt, tt), (((refl, lit< tt), tt), tt)))

first_made : Makes Serial (begun (128, (codes "soak", true)) []) first_parts (standing [])
unfolding name
first_made = (
  _,
  (_, refl, refl, refl, refl, short_valid, refl),
  (_, (_, refl, refl, refl, refl, wide_valid, refl), (_, (_, refl, refl, refl, refl, long_valid, refl), refl)),
)

frame_valid : (step : ℕ) → step ≤ 100_000 → AllByRecursion IsReservationField (frame_fields step)
unfolding beginning_fields said_fields duration_fields count_fields always no_more beginning mapped or_else said number greatest
frame_valid step h = ((omega (arith, h), tt), ((omega (arith, h), tt), ((lit< tt, tt), ((lit< tt, tt), tt))))

frame_made : (frames : Frames) (step : ℕ) (run : Option (List ℕ)) → step ≤ 100_000 → lookup (bytes_eq (template_name step)) frames ≡ None
    → Makes Serial (standing frames) (frame_parts step run) (standing (frames ++ frames_by step run))
unfolding name
frame_made frames step None h unused =
    (standing (frames ++ (template_name step, frame_of step) ∷ []), (frame_of step, refl, refl, rw unused refl, is_numbered 120 step refl h, frame_valid step h, refl), refl)
frame_made frames step (Some template) h unused = ap standing (sym (append-nil frames))

frames_made : (seed steps : ℕ) → steps ≤ 100_000 → Makes Serial (standing []) (for_steps (parts_at seed) steps) (standing (for_steps (frames_at seed) steps))
frames_made seed zero h = refl
frames_made seed (suc step) h =
    let before = for_steps (frames_at seed) step in
    makes_both (standing []) (standing before) (standing (before ++ frames_at seed (suc step))) (for_steps (parts_at seed) step) (parts_at seed (suc step))
    (frames_made seed step (omega (arith, h))) (frame_made before (suc step) (template_of (draw seed (suc step))) h (no_frame seed step (suc step) (omega arith) h))

client_made : (steps seed : ℕ) → steps ≤ 100_000 → Makes Serial (standing (for_steps (frames_at seed) steps)) (Lines false (client_of steps seed) ∷ []) (soak_of steps seed)
client_made steps seed h =
    (soak_of steps seed, (refl, client_follows (for_steps (frames_at seed) steps) steps seed h (λ m some l none. each_frame seed steps m some l none), refl), refl)

script_made : (steps seed : ℕ) → steps ≤ 100_000 → Makes Serial (begun (128, (codes "soak", true)) []) (parts_of steps seed) (soak_of steps seed)
script_made steps seed h =
    let frames = for_steps (parts_at seed) steps in
    let client = Lines false (client_of steps seed) ∷ [] in
    makes_both (begun (128, (codes "soak", true)) []) (standing []) (soak_of steps seed) first_parts (frames ++ client) first_made
    (makes_both (standing []) (standing (for_steps (frames_at seed) steps)) (soak_of steps seed) frames client (frames_made seed steps h) (client_made steps seed h))

-- ---- the script

machine_valid : header.valid (128, (codes "soak", true))
unfolding header suspend checked behind pair number text
machine_valid = ((lit< tt, ((letters_clean (codes "soak") refl).utf8, refl)), refl)

pub soak_spelled : (steps seed : ℕ) → steps ≤ 100_000 → Spells Serial (soak_script steps seed) (soak_of steps seed)
soak_spelled steps seed h = record {
  machine = (128, (codes "soak", true));
  valid = machine_valid;
  queues = [];
  each = tt;
  queued = refl;
  parts = parts_of steps seed;
  makes = script_made steps seed h;
  text = script_spelled steps seed;
}

pub soak_is_text : (steps seed : ℕ) → steps ≤ 100_000 → IsTextOf (SpellsUnskipped (Spells Serial)) 16_777_216 (soak_text steps seed) (soak_of steps seed)
soak_is_text steps seed h =
    let ls = soak_script steps seed in
    let shown = script_shown steps seed h in
    ended_text (SpellsUnskipped (Spells Serial)) ls (soak_of steps seed) 16_777_216 (shown_lines ls shown)
    (record { readable = shown_readable ls shown; spelled = subst (λ ks. Spells Serial ks (soak_of steps seed)) (sym (shown_unskipped ls shown)) (soak_spelled steps seed h) })
    (script_size steps seed h)
