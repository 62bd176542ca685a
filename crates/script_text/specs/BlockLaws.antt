-- What a reader of scripts has read: a script, and the beginning of a block behind it.
use Rattle.std.proofs.Common.{◌≡◌, ℕ, ◌&&◌, not, Bool, true, false, List, [], ◌∷◌, ◌++◌, map, Some, None, codes, refl, sym, ap, subst, ◌∙◌, append_assoc, append-nil, if◌then◌else◌}
use Rattle.std.specs.List.{AllByRecursion, flat_map}
use Rattle.std.specs.Str.{bytes_eq}
use Rattle.std.proofs.lemmas.Slice.Eq.{bytes_eq-Decides}
use Rattle.std.proofs.lemmas.List.{map-append}
use Rattle.std.proofs.lemmas.List.Concat.{flat_map-append}
use Rattle.std.proofs.lemmas.Option.{none-some, same_Some, cond_some}
use Rattle.drmaa_types.specs.declared.queues.QueueSpec.{QueueSpec}
use Rattle.drmaa_types.specs.Queues.{are_queues}
use Rattle.job_template.specs.declared.templates.ReservationTemplate.{ReservationTemplate}
use Rattle.text_codec.specs.Formats.{◌>>=◌, strip}
use Rattle.text_codec.specs.Words.{name}
use Rattle.text_codec.specs.WordLaws.{name_laws}
use Rattle.text_codec.specs.StepLaws.{both, by_test, bind, chosen, strip_found}
use Rattle.text_codec.specs.FormatLaws as whole
use Rattle.text_codec.specs.Queues.{queue}
use Rattle.text_codec.specs.QueueLaws.{queue_laws}
use Rattle.script_lines.specs.declared.lines.Line.{Line}
use Rattle.script_lines.specs.declared.fields.JobField.{JobField}
use Rattle.script_lines.specs.declared.fields.ReservationField.{ReservationField}
use Rattle.script_lines.specs.declared.draft.Draft.{Draft}
use Rattle.script_lines.specs.Lines.{line_form, read_line}
use Rattle.script_lines.specs.LineLaws.{line_found}
use Rattle.script_lines.specs.TemplateFields.{read_job_field, read_reservation_field}
use Rattle.script_lines.specs.TemplateFieldLaws.{job_field_found, reservation_field_found}
use Rattle.script_lines.specs.Templates.{no_fields, is_set, with_field, made, IsJobField, job_text, no_reservation_fields, is_reservation_set, with_reservation_field, booked, IsReservationField, reservation_text}
use Rattle.script_text.specs.declared.scripts.Mode.{Mode}
use Rattle.script_text.specs.declared.scripts.Script.{Script}
use Rattle.script_text.specs.declared.states.Reader.{Reader}
use Rattle.script_text.specs.declared.states.Reader.TheVariants.{Start, Queueing, Top, Filling, Reserving, Asking}
use Rattle.script_text.specs.Header.{header, queue_text}
use Rattle.script_text.specs.HeaderLaws.{header_laws}
use Rattle.script_text.specs.Follows.{lines_of, may_stand}
use Rattle.script_text.specs.Scripts.{is_early, is_named, may_open, begun, with_queue, with_template, with_reservation, with_block, Follow, line_text, template_head, reservation_head, block_head, Part, Job, Reservation, Lines, part_lines, After, Makes, Spells}
use Rattle.script_text.specs.Automaton.{begin_block, filled, reserved, asked, read_name, read_header, read_queue, after_top, next}

pub header_found : (line : List ℕ) (m : ℕ × (List ℕ × Bool)) → read_header line ≡ Some m → header.valid m × (line ≡ header.spell m)
unfolding read_header
header_found = whole.line_found header header_laws

pub header_again : (m : ℕ × (List ℕ × Bool)) → header.valid m → read_header (header.spell m) ≡ Some m
unfolding read_header
header_again = whole.line_again header header_laws

pub name_found : (line n : List ℕ) → read_name line ≡ Some n → name.valid n × (line ≡ name.spell n)
unfolding read_name
name_found = whole.line_found name name_laws

pub name_again : (n : List ℕ) → name.valid n → read_name (name.spell n) ≡ Some n
unfolding read_name
name_again = whole.line_again name name_laws

pub queue_found : (line : List ℕ) (q : QueueSpec) → read_queue line ≡ Some q → queue.valid q × (line ≡ queue.spell q)
unfolding read_queue
queue_found = whole.line_found queue queue_laws

pub queue_again : (q : QueueSpec) → queue.valid q → read_queue (queue.spell q) ≡ Some q
unfolding read_queue
queue_again = whole.line_again queue queue_laws

-- What was read so far: the lines of queues, with a machine line before them.
pub record IsQueueing (ls : List (List ℕ)) (s : Script) : Type 0 where
  pub machine : ℕ × (List ℕ × Bool)
  pub valid : header.valid machine
  pub queues : List QueueSpec
  pub each : AllByRecursion queue.valid queues
  pub queued : are_queues machine.0 queues ≡ true
  pub script : s ≡ begun machine queues
  pub text : ls ≡ header.spell machine ∷ map queue_text queues

-- What was read so far: a script, and the beginning of a block behind it.
pub record IsFilling (mode : Mode) (ls : List (List ℕ)) (s : Script) (n : List ℕ) (t : Draft) : Type 0 where
  pub before : List (List ℕ)
  pub script : Spells mode before s
  pub early : is_early s ≡ true
  pub new : is_named s n ≡ false
  pub name : name.valid n
  pub fields : List JobField
  pub each : AllByRecursion IsJobField fields
  pub made : made no_fields fields ≡ Some t
  pub text : ls ≡ before ++ template_head n ∷ map job_text fields

pub record IsReserving (mode : Mode) (ls : List (List ℕ)) (s : Script) (n : List ℕ) (t : ReservationTemplate) : Type 0 where
  pub before : List (List ℕ)
  pub script : Spells mode before s
  pub early : is_early s ≡ true
  pub new : is_named s n ≡ false
  pub name : name.valid n
  pub fields : List ReservationField
  pub each : AllByRecursion IsReservationField fields
  pub made : booked no_reservation_fields fields ≡ Some t
  pub text : ls ≡ before ++ reservation_head n ∷ map reservation_text fields

pub record IsAsking (mode : Mode) (ls : List (List ℕ)) (s : Script) (b : List Line) (in_setup : Bool) : Type 0 where
  pub before : List (List ℕ)
  pub script : Spells mode before s
  pub opens : may_open in_setup s ≡ true
  pub follow : Follow mode in_setup s (lines_of s.setup) b
  pub text : ls ≡ before ++ block_head in_setup ∷ map line_text b

-- The lines are those of a state, and its script is of this kind.
abbrev pub Behind : Mode → List (List ℕ) → Reader → Type 0
Behind mode ls (Start m) = (ls ≡ []) × (m ≡ mode)
Behind mode ls (Queueing m s) = IsQueueing ls s × (m ≡ mode)
Behind mode ls (Top m s) = Spells mode ls s × (m ≡ mode)
Behind mode ls (Filling m (s, n) t) = IsFilling mode ls s n t × (m ≡ mode)
Behind mode ls (Reserving m (s, n) t) = IsReserving mode ls s n t × (m ≡ mode)
Behind mode ls (Asking m s b in_setup) = IsAsking mode ls s b in_setup × (m ≡ mode)

-- longer by one
made_more : (t u : Draft) (fs : List JobField) (f : JobField) → made t fs ≡ Some u → is_set u f ≡ false → made t (fs ++ f ∷ []) ≡ Some (with_field u f)
made_more t u [] f m n = let same : t ≡ u = same_Some t u m in subst (λ x. made t (f ∷ []) ≡ Some (with_field x f)) same (let unset : is_set t f ≡ false = subst (λ x. is_set x f ≡ false) (sym same) n in rw unset refl)
made_more t u (g ∷ gs) f m n = by_test (is_set t g)
    (λ b. absurd (none-some _ (rw b at m)))
    (λ b. rw b (made_more (with_field t g) u gs f (rw b at m) n))

booked_more : (t u : ReservationTemplate) (fs : List ReservationField) (f : ReservationField) → booked t fs ≡ Some u → is_reservation_set u f ≡ false → booked t (fs ++ f ∷ []) ≡ Some (with_reservation_field u f)
booked_more t u [] f m n = let same : t ≡ u = same_Some t u m in subst (λ x. booked t (f ∷ []) ≡ Some (with_reservation_field x f)) same (let unset : is_reservation_set t f ≡ false = subst (λ x. is_reservation_set x f ≡ false) (sym same) n in rw unset refl)
booked_more t u (g ∷ gs) f m n = by_test (is_reservation_set t g)
    (λ b. absurd (none-some _ (rw b at m)))
    (λ b. rw b (booked_more (with_reservation_field t g) u gs f (rw b at m) n))

all_more : {A : Type 0} (P : A → Type 0) (xs : List A) (x : A) → AllByRecursion P xs → P x → AllByRecursion P (xs ++ x ∷ [])
all_more P [] x each h = (h, tt)
all_more P (y ∷ ys) x each h = (each.0, all_more P ys x each.1 h)

follow_more : (mode : Mode) (k : Bool) (s : Script) (earlier ls : List Line) (l : Line) → Follow mode k s earlier ls → (line_form l).valid → may_stand mode k s (earlier ++ ls) l ≡ true → Follow mode k s earlier (ls ++ l ∷ [])
follow_more mode k s earlier [] l f v m = ((v, subst (λ es. may_stand mode k s es l ≡ true) (append-nil earlier) m), tt)
follow_more mode k s earlier (x ∷ xs) l f v m = (f.0, follow_more mode k s (earlier ++ x ∷ []) xs l f.1 v (subst (λ es. may_stand mode k s es l ≡ true) (sym (append_assoc earlier (x ∷ []) xs)) m))

not_true : (b : Bool) → not b ≡ true → b ≡ false
not_true false e = refl
not_true true e = cc

makes_more : (mode : Mode) (s t u : Script) (ps : List Part) (p : Part) → Makes mode s ps t → After mode t p u → Makes mode s (ps ++ p ∷ []) u
makes_more mode s t u [] p m a = subst (λ x. Makes mode x (p ∷ []) u) (sym m) (u, a, refl)
makes_more mode s t u (q ∷ qs) p m a = (m.0, m.1, makes_more mode m.0 t u qs p m.2 a)

-- a block more
part_more : (mode : Mode) (ls : List (List ℕ)) (s t : Script) (p : Part) → Spells mode ls s → After mode s p t → Spells mode (ls ++ part_lines p) t
part_more mode ls s t p h a = record {
  machine = h.machine;
  valid = h.valid;
  queues = h.queues;
  each = h.each;
  queued = h.queued;
  parts = h.parts ++ p ∷ [];
  makes = makes_more mode (begun h.machine h.queues) s t h.parts p h.makes a;
  text = ap (λ ks. ks ++ part_lines p) h.text ∙ ap (λ ks. header.spell h.machine ∷ ks)
      (append_assoc (map queue_text h.queues) (flat_map part_lines h.parts) (part_lines p) ∙ ap (λ ks. map queue_text h.queues ++ ks)
      (ap (λ ks. flat_map part_lines h.parts ++ ks) (sym (append-nil (part_lines p))) ∙ sym (flat_map-append part_lines h.parts (p ∷ []))));
}

-- the machine with its queues is a script
pub queueing_spelled : (mode : Mode) (ls : List (List ℕ)) (s : Script) → IsQueueing ls s → Spells mode ls s
queueing_spelled mode ls s h = record {
  machine = h.machine;
  valid = h.valid;
  queues = h.queues;
  each = h.each;
  queued = h.queued;
  parts = [];
  makes = sym h.script;
  text = h.text ∙ ap (λ ks. header.spell h.machine ∷ ks) (sym (append-nil (map queue_text h.queues)));
}

-- one line more
pub same_line : (l w : List ℕ) → bytes_eq l w ≡ true → l ≡ w
same_line l w e = (bytes_eq-Decides l w).0 e

tail : (ls before : List (List ℕ)) (head l : List ℕ) (xs : List (List ℕ)) → ls ≡ before ++ head ∷ xs → ls ++ l ∷ [] ≡ before ++ head ∷ (xs ++ l ∷ [])
tail ls before head l xs e = ap (λ ks. ks ++ l ∷ []) e ∙ append_assoc before (head ∷ xs) (l ∷ [])

start_more : (mode : Mode) (ls : List (List ℕ)) (l : List ℕ) (t : Reader) → ls ≡ [] → next (Start mode) l ≡ Some t → Behind mode (ls ++ l ∷ []) t
start_more mode ls l t e g = bind (read_header l) _ t g (λ m a b.
    let h = header_found l m a in
    subst (Behind mode (ls ++ l ∷ [])) (same_Some _ _ b) (record { machine = m; valid = h.0; queues = []; each = tt; queued = refl; script = refl; text = ap (λ ks. ks ++ l ∷ []) e ∙ ap (λ k. k ∷ []) h.1 }, refl))

open_more : (mode : Mode) (ls : List (List ℕ)) (s : Script) (l : List ℕ) (k : Bool) (t : Reader) → Spells mode ls s → l ≡ block_head k → begin_block mode s k ≡ Some t → Behind mode (ls ++ l ∷ []) t
open_more mode ls s l k t h e g =
    let c = cond_some (may_open k s) (Asking mode s [] k) t g in
    subst (Behind mode (ls ++ l ∷ [])) c.1 (record { before = ls; script = h; opens = c.0; follow = tt; text = ap (λ x. ls ++ x ∷ []) e }, refl)

top_more : (mode : Mode) (ls : List (List ℕ)) (l : List ℕ) (t : Reader) (s : Script) → Spells mode ls s → after_top mode s l ≡ Some t → Behind mode (ls ++ l ∷ []) t
top_more mode ls l t s h g = chosen (strip (codes "template ") l) _ _ _ g
    (λ r a b. bind (read_name r) _ t b (λ n c d.
    let k = cond_some (is_early s && not (is_named s n)) (Filling mode (s, n) no_fields) t d in
    let parts = both (is_early s) (not (is_named s n)) k.0 in
    let m = name_found r n c in
    let line : l ≡ template_head n = strip_found (codes "template ") l r a ∙ ap (λ x. codes "template " ++ x) m.1 in
    subst (Behind mode (ls ++ l ∷ [])) k.1
    (record { before = ls; script = h; early = parts.0; new = not_true _ parts.1; name = m.0; fields = []; each = tt; made = refl; text = ap (λ x. ls ++ x ∷ []) line }, refl)))
    (λ a b. chosen (strip (codes "rtemplate ") l) _ _ _ b
    (λ r c d. bind (read_name r) _ t d (λ n f i.
    let k = cond_some (is_early s && not (is_named s n)) (Reserving mode (s, n) no_reservation_fields) t i in
    let parts = both (is_early s) (not (is_named s n)) k.0 in
    let m = name_found r n f in
    let line : l ≡ reservation_head n = strip_found (codes "rtemplate ") l r c ∙ ap (λ x. codes "rtemplate " ++ x) m.1 in
    subst (Behind mode (ls ++ l ∷ [])) k.1
    (record { before = ls; script = h; early = parts.0; new = not_true _ parts.1; name = m.0; fields = []; each = tt; made = refl; text = ap (λ x. ls ++ x ∷ []) line }, refl)))
    (λ c b1. by_test (bytes_eq l (codes "setup"))
    (λ e. open_more mode ls s l true t h (same_line l _ e) (rw e at b1))
    (λ e. let b' : (if bytes_eq l (codes "client") then begin_block mode s false else None) ≡ Some t = rw e at b1 in by_test (bytes_eq l (codes "client"))
    (λ f. open_more mode ls s l false t h (same_line l _ f) (rw f at b'))
    (λ f. absurd (none-some _ (rw f at b'))))))

queue_more : (ls : List (List ℕ)) (l : List ℕ) (s : Script) (q : QueueSpec) → IsQueueing ls s → queue.valid q → l ≡ queue_text q
    → are_queues s.config.slots (s.config.queues ++ q ∷ []) ≡ true → IsQueueing (ls ++ l ∷ []) (with_queue s q)
queue_more ls l s q h v line a = record {
  machine = h.machine;
  valid = h.valid;
  queues = h.queues ++ q ∷ [];
  each = all_more queue.valid h.queues q h.each v;
  queued = subst (λ (x : Script). are_queues x.config.slots (x.config.queues ++ q ∷ []) ≡ true) h.script a;
  script = ap (λ x. with_queue x q) h.script;
  text = ap (λ ks. ks ++ l ∷ []) h.text ∙ ap (λ x. header.spell h.machine ∷ (map queue_text h.queues ++ x ∷ [])) line
      ∙ ap (λ ks. header.spell h.machine ∷ ks) (sym (map-append queue_text h.queues (q ∷ [])));
}

queueing_more : (mode : Mode) (ls : List (List ℕ)) (l : List ℕ) (t : Reader) (s : Script) → IsQueueing ls s → next (Queueing mode s) l ≡ Some t → Behind mode (ls ++ l ∷ []) t
queueing_more mode ls l t s h g = chosen (strip (codes "queue ") l) _ _ _ g
    (λ r a b. bind (read_queue r) _ t b (λ q c d.
    let k = cond_some (are_queues s.config.slots (s.config.queues ++ q ∷ [])) (Queueing mode (with_queue s q)) t d in
    let m = queue_found r q c in
    let line : l ≡ queue_text q = strip_found (codes "queue ") l r a ∙ ap (λ x. codes "queue " ++ x) m.1 in
    subst (Behind mode (ls ++ l ∷ [])) k.1 (queue_more ls l s q h m.0 line k.0, refl)))
    (λ a b. top_more mode ls l t s (queueing_spelled mode ls s h) b)

filling_more : (mode : Mode) (ls : List (List ℕ)) (l : List ℕ) (to : Reader) (s : Script) (n : List ℕ) (t : Draft) → IsFilling mode ls s n t → next (Filling mode (s, n) t) l ≡ Some to → Behind mode (ls ++ l ∷ []) to
filling_more mode ls l to s n t h g = by_test (bytes_eq l (codes "end"))
    (λ e.
    let to_is : Some (Top mode (with_template s n t.template)) ≡ Some to = rw e at g in
    let text : ls ++ l ∷ [] ≡ h.before ++ part_lines (Job n h.fields) = tail ls h.before (template_head n) l (map job_text h.fields) h.text ∙ ap (λ x. h.before ++ template_head n ∷ (map job_text h.fields ++ x ∷ [])) (same_line l _ e) in
    subst (Behind mode (ls ++ l ∷ [])) (same_Some _ _ to_is) (subst (λ ks. Spells mode ks (with_template s n t.template)) (sym text) (part_more mode h.before s (with_template s n t.template) (Job n h.fields) h.script (t, h.made, h.early, h.new, h.name, h.each, refl)), refl))
    (λ e.
    let g' : (read_job_field l >>= filled mode s n t) ≡ Some to = rw e at g in
    bind (read_job_field l) _ to g' (λ f a b. by_test (is_set t f)
    (λ c. absurd (none-some _ (rw c at b)))
    (λ c.
    let to_is : Some (Filling mode (s, n) (with_field t f)) ≡ Some to = rw c at b in
    let m = job_field_found l f a in
    subst (Behind mode (ls ++ l ∷ [])) (same_Some _ _ to_is) (
      record {
        before = h.before;
        script = h.script;
        early = h.early;
        new = h.new;
        name = h.name;
        fields = h.fields ++ f ∷ [];
        each = all_more IsJobField h.fields f h.each m.0;
        made = made_more no_fields t h.fields f h.made c;
        text = tail ls h.before (template_head n) l (map job_text h.fields) h.text ∙ ap (λ x. h.before ++ template_head n ∷ (map job_text h.fields ++ x ∷ [])) m.1 ∙ ap (λ xs. h.before ++ template_head n ∷ xs) (sym (map-append job_text h.fields (f ∷ [])));
      },
      refl,
    ))))

reserving_more : (mode : Mode) (ls : List (List ℕ)) (l : List ℕ) (to : Reader) (s : Script) (n : List ℕ) (t : ReservationTemplate) → IsReserving mode ls s n t → next (Reserving mode (s, n) t) l ≡ Some to → Behind mode (ls ++ l ∷ []) to
reserving_more mode ls l to s n t h g = by_test (bytes_eq l (codes "end"))
    (λ e.
    let to_is : Some (Top mode (with_reservation s n t)) ≡ Some to = rw e at g in
    let text : ls ++ l ∷ [] ≡ h.before ++ part_lines (Reservation n h.fields) = tail ls h.before (reservation_head n) l (map reservation_text h.fields) h.text ∙ ap (λ x. h.before ++ reservation_head n ∷ (map reservation_text h.fields ++ x ∷ [])) (same_line l _ e) in
    subst (Behind mode (ls ++ l ∷ [])) (same_Some _ _ to_is) (subst (λ ks. Spells mode ks (with_reservation s n t)) (sym text) (part_more mode h.before s (with_reservation s n t) (Reservation n h.fields) h.script (t, h.made, h.early, h.new, h.name, h.each, refl)), refl))
    (λ e.
    let g' : (read_reservation_field l >>= reserved mode s n t) ≡ Some to = rw e at g in
    bind (read_reservation_field l) _ to g' (λ f a b. by_test (is_reservation_set t f)
    (λ c. absurd (none-some _ (rw c at b)))
    (λ c.
    let to_is : Some (Reserving mode (s, n) (with_reservation_field t f)) ≡ Some to = rw c at b in
    let m = reservation_field_found l f a in
    subst (Behind mode (ls ++ l ∷ [])) (same_Some _ _ to_is) (
      record {
        before = h.before;
        script = h.script;
        early = h.early;
        new = h.new;
        name = h.name;
        fields = h.fields ++ f ∷ [];
        each = all_more IsReservationField h.fields f h.each m.0;
        made = booked_more no_reservation_fields t h.fields f h.made c;
        text = tail ls h.before (reservation_head n) l (map reservation_text h.fields) h.text ∙ ap (λ x. h.before ++ reservation_head n ∷ (map reservation_text h.fields ++ x ∷ [])) m.1 ∙ ap (λ xs. h.before ++ reservation_head n ∷ xs) (sym (map-append reservation_text h.fields (f ∷ [])));
      },
      refl,
    ))))

asking_more : (mode : Mode) (ls : List (List ℕ)) (l : List ℕ) (to : Reader) (s : Script) (b : List Line) (k : Bool) → IsAsking mode ls s b k → next (Asking mode s b k) l ≡ Some to → Behind mode (ls ++ l ∷ []) to
asking_more mode ls l to s b k h g = by_test (bytes_eq l (codes "end"))
    (λ e.
    let to_is : Some (Top mode (with_block s b k)) ≡ Some to = rw e at g in
    let text : ls ++ l ∷ [] ≡ h.before ++ part_lines (Lines k b) = tail ls h.before (block_head k) l (map line_text b) h.text ∙ ap (λ x. h.before ++ block_head k ∷ (map line_text b ++ x ∷ [])) (same_line l _ e) in
    subst (Behind mode (ls ++ l ∷ [])) (same_Some _ _ to_is) (subst (λ ks. Spells mode ks (with_block s b k)) (sym text) (part_more mode h.before s (with_block s b k) (Lines k b) h.script (h.opens, h.follow, refl)), refl))
    (λ e.
    let g' : (read_line l >>= asked mode s b k) ≡ Some to = rw e at g in
    bind (read_line l) _ to g' (λ x a c.
    let j = cond_some (may_stand mode k s (lines_of s.setup ++ b) x) (Asking mode s (b ++ x ∷ []) k) to c in
    let m = line_found l x a in
    subst (Behind mode (ls ++ l ∷ [])) j.1 (
      record {
        before = h.before;
        script = h.script;
        opens = h.opens;
        follow = follow_more mode k s (lines_of s.setup) b x h.follow m.0 j.0;
        text = tail ls h.before (block_head k) l (map line_text b) h.text ∙ ap (λ y. h.before ++ block_head k ∷ (map line_text b ++ y ∷ [])) m.1 ∙ ap (λ xs. h.before ++ block_head k ∷ xs) (sym (map-append line_text b (x ∷ [])));
      },
      refl,
    )))

pub behind_more : (mode : Mode) (ls : List (List ℕ)) (l : List ℕ) (s t : Reader) → Behind mode ls s → next s l ≡ Some t → Behind mode (ls ++ l ∷ []) t
behind_more mode ls l (Start m) t b g = start_more mode ls l t b.0 (subst (λ k. next (Start k) l ≡ Some t) b.1 g)
behind_more mode ls l (Queueing m s) t b g = queueing_more mode ls l t s b.0 (subst (λ k. next (Queueing k s) l ≡ Some t) b.1 g)
behind_more mode ls l (Top m s) t b g = top_more mode ls l t s b.0 (subst (λ k. next (Top k s) l ≡ Some t) b.1 g)
behind_more mode ls l (Filling m (s, n) u) t b g = filling_more mode ls l t s n u b.0 (subst (λ k. next (Filling k (s, n) u) l ≡ Some t) b.1 g)
behind_more mode ls l (Reserving m (s, n) u) t b g = reserving_more mode ls l t s n u b.0 (subst (λ k. next (Reserving k (s, n) u) l ≡ Some t) b.1 g)
behind_more mode ls l (Asking m s c k) t b g = asking_more mode ls l t s c k b.0 (subst (λ o. next (Asking o s c k) l ≡ Some t) b.1 g)
