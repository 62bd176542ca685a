-- The automaton reads the scripts, and from every state some script goes on.
use Rattle.std.proofs.Common.{◌≡◌, ℕ, ◌&&◌, not, Bool, true, false, List, [], ◌∷◌, ◌++◌, map, Some, None, codes, lit<, refl, sym, ap, subst, ◌∙◌, append_assoc, append-nil}
use Rattle.std.specs.Prelude.{IsUtf8}
use Rattle.std.specs.List.{AllByRecursion, flat_map}
use Rattle.std.specs.Str.{bytes_eq}
use Rattle.std.proofs.lemmas.Option.{none-some, same_Some}
use Rattle.drmaa_types.specs.declared.queues.QueueSpec.{QueueSpec}
use Rattle.drmaa_types.specs.Queues.{are_queues}
use Rattle.job_template.specs.declared.templates.ReservationTemplate.{ReservationTemplate}
use Rattle.text_codec.specs.Formats.{first_word, behind_word, number, pair, behind, checked}
use Rattle.text_codec.specs.Quotes.{text}
use Rattle.text_codec.specs.Fields.{always, no_more}
use Rattle.text_codec.specs.Sums.{sum_of}
use Rattle.text_codec.specs.StepLaws.{by_test}
use Rattle.text_codec.specs.Queues.{queue}
use Rattle.text_lines.specs.Lines.{unskipped_lines, GoesOn}
use Rattle.text_lines.specs.Automata.{Runs, Reads, GoesBy, from, runs-append}
use Rattle.script_lines.specs.declared.lines.Line.{Line}
use Rattle.script_lines.specs.declared.fields.JobField.{JobField}
use Rattle.script_lines.specs.declared.fields.ReservationField.{ReservationField}
use Rattle.script_lines.specs.declared.draft.Draft.{Draft}
use Rattle.script_lines.specs.Shapes.{said_fields}
use Rattle.script_lines.specs.Lines.{line_form, line_sum, read_line}
use Rattle.script_lines.specs.LineLaws.{line_again}
use Rattle.script_lines.specs.TemplateFields.{job_form, job_field_sum, read_job_field, reservation_form, reservation_field_sum, read_reservation_field}
use Rattle.script_lines.specs.TemplateFieldLaws.{job_field_again, reservation_field_again}
use Rattle.script_lines.specs.Templates.{no_fields, is_set, with_field, made, IsJobField, job_text, no_reservation_fields, is_reservation_set, with_reservation_field, booked, IsReservationField, reservation_text}
use Rattle.script_text.specs.declared.scripts.Mode.{Mode}
use Rattle.script_text.specs.declared.scripts.Script.{Script}
use Rattle.script_text.specs.declared.states.Reader.{Reader}
use Rattle.script_text.specs.declared.states.Reader.TheVariants.{Start, Queueing, Top, Filling, Reserving, Asking}
use Rattle.script_text.specs.Header.{suspend, header, queue_text}
use Rattle.script_text.specs.HeaderLaws.{header_laws}
use Rattle.script_text.specs.QueueLaws.{front-queues}
use Rattle.script_text.specs.Follows.{lines_of}
use Rattle.script_text.specs.Scripts.{is_early, is_named, may_open, begun, with_template, with_reservation, with_block, Follow, line_text, template_head, reservation_head, block_head, Part, Job, Reservation, Lines, part_lines, After, Makes, Spells}
use Rattle.script_text.specs.Automaton.{next, ends, mode_of, scripts_stepping}
use Rattle.script_text.specs.BlockLaws.{same_line, header_again, name_again, queue_again, Behind, IsQueueing, queueing_spelled, behind_more}

abbrev pub Goes : Reader → List ℕ → Reader → Type 0
Goes s l t = next s l ≡ Some t

behind_run : (mode : Mode) (front ls : List (List ℕ)) (s t : Reader) → Behind mode front s → Runs Goes s ls t → Behind mode (front ++ ls) t
behind_run mode front [] s t b r = subst (Behind mode (front ++ [])) r (subst (λ ks. Behind mode ks s) (sym (append-nil front)) b)
behind_run mode front (l ∷ ls) s t b r =
    subst (λ ks. Behind mode ks t) (append_assoc front (l ∷ []) ls) (behind_run mode (front ++ l ∷ []) ls r.0 t (behind_more mode front l s r.0 b r.1) r.2)

ended : (mode : Mode) (ls : List (List ℕ)) (t : Reader) (q : Script) → Behind mode ls t → ends t ≡ Some q → Spells mode ls q
ended mode ls (Start m) q b e = absurd (none-some _ e)
ended mode ls (Queueing m s) q b e = subst (Spells mode ls) (same_Some s q e) (queueing_spelled mode ls s b.0)
ended mode ls (Top m s) q b e = subst (Spells mode ls) (same_Some s q e) b.0
ended mode ls (Filling m (s, n) t) q b e = absurd (none-some _ e)
ended mode ls (Reserving m (s, n) t) q b e = absurd (none-some _ e)
ended mode ls (Asking m s c k) q b e = absurd (none-some _ e)

sound : (mode : Mode) (ls : List (List ℕ)) (t : Reader) (q : Script) → Runs Goes (Start mode) ls t → ends t ≡ Some q → Spells mode ls q
sound mode ls t q r e = ended mode ls t q (behind_run mode [] ls (Start mode) t (refl, refl) r) e

-- what is spelled is read
end_field : read_job_field (codes "end") ≡ None
unfolding read_job_field job_field_sum sum_of first_word
end_field = refl

end_reservation_field : read_reservation_field (codes "end") ≡ None
unfolding read_reservation_field reservation_field_sum sum_of first_word behind_word said_fields always no_more
end_reservation_field = refl

end_line : read_line (codes "end") ≡ None
unfolding read_line line_sum sum_of first_word
end_line = refl

field_no_end : (f : JobField) → (job_form f).valid → bytes_eq (job_text f) (codes "end") ≡ false
field_no_end f v = by_test (bytes_eq (job_text f) (codes "end"))
    (λ e. absurd (none-some _ (sym end_field ∙ ap read_job_field (sym (same_line (job_text f) _ e)) ∙ job_field_again f v)))
    (λ e. e)

reservation_field_no_end : (f : ReservationField) → (reservation_form f).valid → bytes_eq (reservation_text f) (codes "end") ≡ false
reservation_field_no_end f v = by_test (bytes_eq (reservation_text f) (codes "end"))
    (λ e. absurd (none-some _ (sym end_reservation_field ∙ ap read_reservation_field (sym (same_line (reservation_text f) _ e)) ∙ reservation_field_again f v)))
    (λ e. e)

line_no_end : (l : Line) → (line_form l).valid → bytes_eq (line_text l) (codes "end") ≡ false
line_no_end l v = by_test (bytes_eq (line_text l) (codes "end"))
    (λ e. absurd (none-some _ (sym end_line ∙ ap read_line (sym (same_line (line_text l) _ e)) ∙ line_again l v)))
    (λ e. e)

fields_run : (mode : Mode) (s : Script) (n : List ℕ) (t u : Draft) (fs : List JobField) → made t fs ≡ Some u → AllByRecursion IsJobField fs
    → Runs Goes (Filling mode (s, n) t) (map job_text fs ++ codes "end" ∷ []) (Top mode (with_template s n u.template))
fields_run mode s n t u [] m each = (Top mode (with_template s n t.template), refl, ap (λ (x : Draft). Top mode (with_template s n x.template)) (same_Some t u m))
fields_run mode s n t u (f ∷ fs) m each = by_test (is_set t f)
    (λ b. absurd (none-some _ (rw b at m)))
    (λ b. (Filling mode (s, n) (with_field t f), rw (field_no_end f each.0, job_field_again f each.0, b) refl, fields_run mode s n (with_field t f) u fs (rw b at m) each.1))

reservation_fields_run : (mode : Mode) (s : Script) (n : List ℕ) (t u : ReservationTemplate) (fs : List ReservationField) → booked t fs ≡ Some u → AllByRecursion IsReservationField fs
    → Runs Goes (Reserving mode (s, n) t) (map reservation_text fs ++ codes "end" ∷ []) (Top mode (with_reservation s n u))
reservation_fields_run mode s n t u [] m each = (Top mode (with_reservation s n t), refl, ap (λ x. Top mode (with_reservation s n x)) (same_Some t u m))
reservation_fields_run mode s n t u (f ∷ fs) m each = by_test (is_reservation_set t f)
    (λ b. absurd (none-some _ (rw b at m)))
    (λ b. (Reserving mode (s, n) (with_reservation_field t f), rw (reservation_field_no_end f each.0, reservation_field_again f each.0, b) refl, reservation_fields_run mode s n (with_reservation_field t f) u fs (rw b at m) each.1))

lines_run : (mode : Mode) (s : Script) (b ls : List Line) (k : Bool) → Follow mode k s (lines_of s.setup ++ b) ls
    → Runs Goes (Asking mode s b k) (map line_text ls ++ codes "end" ∷ []) (Top mode (with_block s (b ++ ls) k))
lines_run mode s b [] k f = subst (λ c. Runs Goes (Asking mode s b k) (codes "end" ∷ []) (Top mode (with_block s c k))) (sym (append-nil b)) (Top mode (with_block s b k), refl, refl)
lines_run mode s b (l ∷ ls) k f =
    let rest = lines_run mode s (b ++ l ∷ []) ls k (subst (λ es. Follow mode k s es ls) (append_assoc (lines_of s.setup) b (l ∷ [])) f.1) in
    (Asking mode s (b ++ l ∷ []) k, rw (line_no_end l f.0.0, line_again l f.0.0, f.0.1) refl, subst (λ c. Runs Goes (Asking mode s (b ++ l ∷ []) k) (map line_text ls ++ codes "end" ∷ []) (Top mode (with_block s c k))) (append_assoc b (l ∷ []) ls) rest)

first_line : (mode : Mode) (s : Script) (k : Bool) → may_open k s ≡ true → next (Top mode s) (block_head k) ≡ Some (Asking mode s [] k)
first_line mode s true opens = rw opens refl
first_line mode s false opens = rw opens refl

both_true : (a b : Bool) → a ≡ true → b ≡ true → (a && b) ≡ true
both_true a b p q = rw (p, q) refl

part_run : (mode : Mode) (s t : Script) (p : Part) → After mode s p t → Runs Goes (Top mode s) (part_lines p) (Top mode t)
part_run mode s t (Job n fs) a =
    let opens : (is_early s && not (is_named s n)) ≡ true = both_true (is_early s) (not (is_named s n)) a.2 (ap not a.3) in
    let first : next (Top mode s) (template_head n) ≡ Some (Filling mode (s, n) no_fields) = rw (name_again n a.4, opens) refl in
    subst (λ x. Runs Goes (Top mode s) (part_lines (Job n fs)) (Top mode x)) (sym a.6) (Filling mode (s, n) no_fields, first, fields_run mode s n no_fields a.0 fs a.1 a.5)
part_run mode s t (Reservation n fs) a =
    let opens : (is_early s && not (is_named s n)) ≡ true = both_true (is_early s) (not (is_named s n)) a.2 (ap not a.3) in
    let first : next (Top mode s) (reservation_head n) ≡ Some (Reserving mode (s, n) no_reservation_fields) = rw (name_again n a.4, opens) refl in
    subst (λ x. Runs Goes (Top mode s) (part_lines (Reservation n fs)) (Top mode x)) (sym a.6) (Reserving mode (s, n) no_reservation_fields, first, reservation_fields_run mode s n no_reservation_fields a.0 fs a.1 a.5)
part_run mode s t (Lines k b) a =
    subst (λ x. Runs Goes (Top mode s) (part_lines (Lines k b)) (Top mode x)) (sym a.2)
    (Asking mode s [] k, first_line mode s k a.0, lines_run mode s [] b k (subst (λ es. Follow mode k s es b) (sym (append-nil (lines_of s.setup))) a.1))

makes_run : (mode : Mode) (s t : Script) (ps : List Part) → Makes mode s ps t → Runs Goes (Top mode s) (flat_map part_lines ps) (Top mode t)
makes_run mode s t [] m = ap (λ x. Top mode x) m
makes_run mode s t (p ∷ ps) m = runs-append Goes (Top mode s) (Top mode m.0) (Top mode t) (part_lines p) (flat_map part_lines ps) (part_run mode s m.0 p m.1) (makes_run mode m.0 t ps m.2)

-- the lines of queues
queues_run : (mode : Mode) (m : ℕ × (List ℕ × Bool)) (front qs : List QueueSpec) → AllByRecursion queue.valid qs → are_queues m.0 (front ++ qs) ≡ true
    → Runs Goes (Queueing mode (begun m front)) (map queue_text qs) (Queueing mode (begun m (front ++ qs)))
queues_run mode m front [] each a = ap (λ qs. Queueing mode (begun m qs)) (sym (append-nil front))
queues_run mode m front (q ∷ qs) each a =
    let all : (front ++ q ∷ []) ++ qs ≡ front ++ q ∷ qs = append_assoc front (q ∷ []) qs in
    let longer : are_queues m.0 ((front ++ q ∷ []) ++ qs) ≡ true = ap (are_queues m.0) all ∙ a in
    let may : are_queues m.0 (front ++ q ∷ []) ≡ true = front-queues m.0 (front ++ q ∷ []) qs longer in
    let rest = queues_run mode m (front ++ q ∷ []) qs each.1 longer in
    (Queueing mode (begun m (front ++ q ∷ [])), rw (queue_again q each.0, may) refl, subst (λ ks. Runs Goes (Queueing mode (begun m (front ++ q ∷ []))) (map queue_text qs) (Queueing mode (begun m ks))) all rest)

-- no block begins as a queue's line does
queues_end : (mode : Mode) (s t : Script) (p : Part) → Runs Goes (Top mode s) (part_lines p) (Top mode t) → Runs Goes (Queueing mode s) (part_lines p) (Top mode t)
queues_end mode s t (Job n fs) r = r
queues_end mode s t (Reservation n fs) r = r
queues_end mode s t (Lines true b) r = r
queues_end mode s t (Lines false b) r = r

-- all that stands behind the machine's queues
blocks_run : (mode : Mode) (s q : Script) (ps : List Part) → Makes mode s ps q → (t : Reader) × Runs Goes (Queueing mode s) (flat_map part_lines ps) t × (ends t ≡ Some q)
blocks_run mode s q [] m = (Queueing mode s, refl, ap (λ x. Some x) m)
blocks_run mode s q (p ∷ ps) m = (Top mode q, runs-append Goes (Queueing mode s) (Top mode m.0) (Top mode q) (part_lines p) (flat_map part_lines ps) (queues_end mode s m.0 p (part_run mode s m.0 p m.1)) (makes_run mode m.0 q ps m.2), refl)

complete : (mode : Mode) (ls : List (List ℕ)) (q : Script) → Spells mode ls q → (t : Reader) × Runs Goes (Start mode) ls t × (ends t ≡ Some q)
complete mode ls q s =
    let first : next (Start mode) (header.spell s.machine) ≡ Some (Queueing mode (begun s.machine [])) = rw (header_again s.machine s.valid) refl in
    let blocks = blocks_run mode (begun s.machine s.queues) q s.parts s.makes in
    let rest = runs-append Goes (Queueing mode (begun s.machine [])) (Queueing mode (begun s.machine s.queues)) blocks.0 (map queue_text s.queues) (flat_map part_lines s.parts) (queues_run mode s.machine [] s.queues s.each s.queued) blocks.1 in
    let run : Runs Goes (Start mode) (header.spell s.machine ∷ (map queue_text s.queues ++ flat_map part_lines s.parts)) blocks.0 = (Queueing mode (begun s.machine []), first, rest) in
    (blocks.0, subst (λ ks. Runs Goes (Start mode) ks blocks.0) (sym s.text) run, blocks.2)

-- from every state some script goes on
some_machine : ℕ × (List ℕ × Bool)
some_machine = (1, (109 ∷ [], true))

some_valid : header.valid some_machine
unfolding header suspend checked behind pair number text some_machine lib.Utf8.encode
some_valid = ((lit< tt, (is_utf8_m, refl)), refl)
  where
    is_utf8_m : IsUtf8 (109 ∷ [])
    is_utf8_m = (109 ∷ [], (refl, refl))

some_unskipped : unskipped_lines (header.spell some_machine ∷ []) ≡ header.spell some_machine ∷ []
unfolding header checked behind
some_unskipped = refl

goes_by : (mode : Mode) (ls : List (List ℕ)) (l : List ℕ) (s : Reader) (q : Script) → Behind mode ls s → next s l ≡ Some (Top mode q) → Spells mode (ls ++ l ∷ []) q
goes_by mode ls l s q b g = (behind_more mode ls l s (Top mode q) b g).0

machine_read : (mode : Mode) (ls : List (List ℕ)) (m : Mode) → Behind mode ls (Start m) → IsQueueing (ls ++ header.spell some_machine ∷ []) (begun some_machine [])
machine_read mode ls m b =
    let first : next (Start m) (header.spell some_machine) ≡ Some (Queueing mode (begun some_machine [])) = rw (header_again some_machine some_valid) (ap (λ k. Some (Queueing k (begun some_machine []))) b.1) in
    (behind_more mode ls (header.spell some_machine) (Start m) (Queueing mode (begun some_machine [])) b first).0

going_on : (mode : Mode) (ls : List (List ℕ)) (t : Reader) → Behind mode ls t → GoesOn (Spells mode) ls
going_on mode ls (Start m) b = record {
  more = header.spell some_machine ∷ [];
  are_lines = ((header_laws.clean some_machine some_valid).one_line, tt);
  text = begun some_machine [];
  spelled = queueing_spelled mode _ (begun some_machine []) (machine_read mode ls m b);
  unskipped = some_unskipped;
}
going_on mode ls (Queueing m s) b = record { more = []; are_lines = tt; text = s; spelled = subst (λ ks. Spells mode ks s) (sym (append-nil ls)) (queueing_spelled mode ls s b.0); unskipped = refl }
going_on mode ls (Top m s) b = record { more = []; are_lines = tt; text = s; spelled = subst (λ ks. Spells mode ks s) (sym (append-nil ls)) b.0; unskipped = refl }
going_on mode ls (Filling m (s, n) t) b = record {
  more = codes "end" ∷ [];
  are_lines = (refl, tt);
  text = with_template s n t.template;
  spelled = goes_by mode ls (codes "end") (Filling m (s, n) t) (with_template s n t.template) b (ap (λ k. Some (Top k (with_template s n t.template))) b.1);
  unskipped = refl;
}
going_on mode ls (Reserving m (s, n) t) b = record {
  more = codes "end" ∷ [];
  are_lines = (refl, tt);
  text = with_reservation s n t;
  spelled = goes_by mode ls (codes "end") (Reserving m (s, n) t) (with_reservation s n t) b (ap (λ k. Some (Top k (with_reservation s n t))) b.1);
  unskipped = refl;
}
going_on mode ls (Asking m s c k) b = record {
  more = codes "end" ∷ [];
  are_lines = (refl, tt);
  text = with_block s c k;
  spelled = goes_by mode ls (codes "end") (Asking m s c k) (with_block s c k) b (ap (λ o. Some (Top o (with_block s c k))) b.1);
  unskipped = refl;
}

reads_mode : (mode : Mode) → Reads Goes (Start mode) ends (Spells mode)
reads_mode mode = record {
  sound = sound mode;
  complete = complete mode;
  goes_on = λ ls t r. going_on mode ls t (behind_run mode [] ls (Start mode) t (refl, refl) r);
}

pub reads_scripts : (first : Reader) → scripts_stepping.is_first first → Reads (GoesBy (from scripts_stepping first)) first scripts_stepping.ends (scripts_stepping.Spells first)
reads_scripts first h = subst (λ r. Reads Goes r ends (Spells (mode_of first))) (sym h) (reads_mode (mode_of first))

-- no lines are two scripts'
runs_same : (ls : List (List ℕ)) (s t u : Reader) → Runs Goes s ls t → Runs Goes s ls u → t ≡ u
runs_same [] s t u p q = sym p ∙ q
runs_same (l ∷ ls) s t u p q =
    let same : p.0 ≡ q.0 = same_Some p.0 q.0 (sym p.1 ∙ q.1) in
    runs_same ls q.0 t u (subst (λ m. Runs Goes m ls t) same p.2) q.2

pub one_script : (mode : Mode) (ls : List (List ℕ)) (a b : Script) → Spells mode ls a → Spells mode ls b → a ≡ b
one_script mode ls a b p q =
    let r = complete mode ls a p in
    let s = complete mode ls b q in
    same_Some a b (sym r.2 ∙ ap ends (runs_same ls (Start mode) r.0 s.0 r.1 s.1) ∙ s.2)
