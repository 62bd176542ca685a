-- The reader of scripts behind a journal reads those of its machine and queues, and from every state such a script goes on.
use Rattle.std.proofs.Common.{◌≡◌, ◌⊎◌, ℕ, ◌&&◌, not, Bool, true, false, List, [], ◌∷◌, ◌++◌, map, Some, None, codes, refl, sym, ap, subst, ◌∙◌, append_assoc, append-nil, inl, inr, if◌then◌else◌}
use Rattle.std.specs.List.{AllByRecursion}
use Rattle.std.specs.Str.{bytes_eq}
use Rattle.std.proofs.lemmas.List.{map-append}
use Rattle.std.proofs.lemmas.Option.{none-some, same_Some, cond_some}
use Rattle.drmaa_types.specs.declared.queues.QueueSpec.{QueueSpec}
use Rattle.drmaa_types.specs.Queues.{are_queues}
use Rattle.drmaa_model.specs.declared.configs.Config.{Config}
use Rattle.job_template.specs.declared.templates.ReservationTemplate.{ReservationTemplate}
use Rattle.text_codec.specs.Formats.{◌>>=◌, strip, checked, behind, pair, list_of}
use Rattle.text_codec.specs.CleanLaws.{clean_behind}
use Rattle.text_codec.specs.StepLaws.{both, by_test, bind, chosen}
use Rattle.text_codec.specs.Queues.{queue}
use Rattle.text_codec.specs.QueueLaws.{queue_laws}
use Rattle.text_lines.specs.Lines.{unskipped_lines, AreLines, GoesOn}
use Rattle.text_lines.specs.Automata.{Runs, Reads, GoesBy, from}
use Rattle.script_lines.specs.declared.lines.Line.{Line}
use Rattle.script_lines.specs.declared.draft.Draft.{Draft}
use Rattle.script_lines.specs.Lines.{read_line}
use Rattle.script_lines.specs.TemplateFields.{read_job_field, read_reservation_field}
use Rattle.script_lines.specs.Templates.{no_fields, is_set, with_field, no_reservation_fields, is_reservation_set, with_reservation_field}
use Rattle.journal_text.specs.Journals as journals
use Rattle.journal_text.specs.Journals.{IsWritable, machine_of, title_of, is_machine}
use Rattle.journal_text.specs.Queues.{queues}
use Rattle.journal_text.specs.declared.journals.Journal.{Journal}
use Rattle.script_text.specs.declared.scripts.Mode.{Mode}
use Rattle.script_text.specs.declared.scripts.Mode.TheVariants.{Serial}
use Rattle.script_text.specs.declared.scripts.Script.{Script}
use Rattle.script_text.specs.declared.states.Reader.{Reader}
use Rattle.script_text.specs.declared.states.Reader.TheVariants.{Start, Queueing, Top, Filling, Reserving, Asking}
use Rattle.script_text.specs.Header.{header, suspend, queue_text}
use Rattle.script_text.specs.HeaderLaws.{header_laws}
use Rattle.script_text.specs.Follows.{lines_of, may_stand}
use Rattle.script_text.specs.Scripts as scripts
use Rattle.script_text.specs.Scripts.{is_early, is_named, may_open, begun, with_queue, with_template, with_reservation, with_block}
use Rattle.script_text.specs.Automaton as script
use Rattle.script_text.specs.Automaton.{read_name, read_header, read_queue, begin_block, queued, filled, reserved, asked, after_top}
use Rattle.script_text.specs.BlockLaws.{Behind, IsQueueing, queueing_spelled, behind_more}
use Rattle.script_text.specs.ScriptLaws.{reads_scripts}
use Rattle.continued_text.specs.Configs.{is_begun, has_all_queues}
use Rattle.continued_text.specs.ConfigLaws.{begun_is, begun_whole, begun_same, all_same, begun_before}
use Rattle.continued_text.specs.Reading.{is_full, fits, matched, ended, SpellsBehind, IsStart, next_matching, ends_matching, matching}
use Rattle.continued_text.specs.declared.texts.Continued.{Continued}
use Rattle.continued_text.specs.declared.matching.MatchingReader.{MatchingReader}

-- ---- what a line leaves of the configuration

-- blocks were begun, of a script with this configuration
abbrev IsIn : Config → Reader → Type 0
IsIn c (Start m) = ⊥
IsIn c (Queueing m s) = ⊥
IsIn c (Top m s) = s.config ≡ c
IsIn c (Filling m (s, n) d) = s.config ≡ c
IsIn c (Reserving m (s, n) t) = s.config ≡ c
IsIn c (Asking m s b k) = s.config ≡ c

opened_in : (m : Mode) (s : Script) (k : Bool) (t : Reader) → begin_block m s k ≡ Some t → IsIn s.config t
opened_in m s k t g = subst (IsIn s.config) (cond_some (may_open k s) (Asking m s [] k) t g).1 refl

top_in : (m : Mode) (s : Script) (l : List ℕ) (t : Reader) → after_top m s l ≡ Some t → IsIn s.config t
top_in m s l t g = chosen (strip (codes "template ") l) _ _ _ g
    (λ r a b. bind (read_name r) _ t b (λ n c d. subst (IsIn s.config) (cond_some (is_early s && not (is_named s n)) (Filling m (s, n) no_fields) t d).1 refl))
    (λ a b. chosen (strip (codes "rtemplate ") l) _ _ _ b
    (λ r c d. bind (read_name r) _ t d (λ n f i. subst (IsIn s.config) (cond_some (is_early s && not (is_named s n)) (Reserving m (s, n) no_reservation_fields) t i).1 refl))
    (λ c e. by_test (bytes_eq l (codes "setup"))
    (λ f. opened_in m s true t (rw f at e))
    (λ f. let rest : (if bytes_eq l (codes "client") then begin_block m s false else None) ≡ Some t = rw f at e in by_test (bytes_eq l (codes "client"))
    (λ h. opened_in m s false t (rw h at rest))
    (λ h. absurd (none-some _ (rw h at rest))))))

filling_in : (c : Config) (m : Mode) (s : Script) (n : List ℕ) (d : Draft) (l : List ℕ) (t : Reader) → s.config ≡ c → script.next (Filling m (s, n) d) l ≡ Some t → IsIn c t
filling_in c m s n d l t h g = by_test (bytes_eq l (codes "end"))
    (λ e. let to : Some (Top m (with_template s n d.template)) ≡ Some t = rw e at g in subst (IsIn c) (same_Some _ _ to) h)
    (λ e. let to : (read_job_field l >>= filled m s n d) ≡ Some t = rw e at g in bind (read_job_field l) _ t to (λ f a b. by_test (is_set d f)
    (λ i. absurd (none-some _ (rw i at b)))
    (λ i. let on : Some (Filling m (s, n) (with_field d f)) ≡ Some t = rw i at b in subst (IsIn c) (same_Some _ _ on) h)))

reserving_in : (c : Config) (m : Mode) (s : Script) (n : List ℕ) (r : ReservationTemplate) (l : List ℕ) (t : Reader) → s.config ≡ c → script.next (Reserving m (s, n) r) l ≡ Some t → IsIn c t
reserving_in c m s n r l t h g = by_test (bytes_eq l (codes "end"))
    (λ e. let to : Some (Top m (with_reservation s n r)) ≡ Some t = rw e at g in subst (IsIn c) (same_Some _ _ to) h)
    (λ e. let to : (read_reservation_field l >>= reserved m s n r) ≡ Some t = rw e at g in bind (read_reservation_field l) _ t to (λ f a b. by_test (is_reservation_set r f)
    (λ i. absurd (none-some _ (rw i at b)))
    (λ i. let on : Some (Reserving m (s, n) (with_reservation_field r f)) ≡ Some t = rw i at b in subst (IsIn c) (same_Some _ _ on) h)))

block_config : (s : Script) (b : List Line) (k : Bool) → (with_block s b k).config ≡ s.config
block_config s b true = refl
block_config s b false = refl

asking_in : (c : Config) (m : Mode) (s : Script) (b : List Line) (k : Bool) (l : List ℕ) (t : Reader) → s.config ≡ c → script.next (Asking m s b k) l ≡ Some t → IsIn c t
asking_in c m s b k l t h g = by_test (bytes_eq l (codes "end"))
    (λ e. let to : Some (Top m (with_block s b k)) ≡ Some t = rw e at g in subst (IsIn c) (same_Some _ _ to) (block_config s b k ∙ h))
    (λ e. let to : (read_line l >>= asked m s b k) ≡ Some t = rw e at g in bind (read_line l) _ t to (λ x a d.
    subst (IsIn c) (cond_some (may_stand m k s (lines_of s.setup ++ b) x) (Asking m s (b ++ x ∷ []) k) t d).1 h))

block_in : (c : Config) (s t : Reader) (l : List ℕ) → IsIn c s → script.next s l ≡ Some t → IsIn c t
block_in c (Start m) t l h g = absurd h
block_in c (Queueing m s) t l h g = absurd h
block_in c (Top m s) t l h g = subst (λ k. IsIn k t) h (top_in m s l t g)
block_in c (Filling m (s, n) d) t l h g = filling_in c m s n d l t h g
block_in c (Reserving m (s, n) r) t l h g = reserving_in c m s n r l t h g
block_in c (Asking m s b k) t l h g = asking_in c m s b k l t h g

-- the machine line is followed by its queues
abbrev IsHead : Reader → Type 0
IsHead t = (m : Mode) × (h : ℕ × (List ℕ × Bool)) × (t ≡ Queueing m (begun h []))

start_in : (m : Mode) (l : List ℕ) (t : Reader) → script.next (Start m) l ≡ Some t → IsHead t
start_in m l t g = bind (read_header l) _ t g (λ h a b. (m, h, sym (same_Some _ _ b)))

-- a queue more, or a block
abbrev IsQueued : Script → Reader → Type 0
IsQueued s t = (m : Mode) × (q : QueueSpec) × (t ≡ Queueing m (with_queue s q))

queueing_in : (m : Mode) (s : Script) (l : List ℕ) (t : Reader) → script.next (Queueing m s) l ≡ Some t → IsQueued s t ⊎ IsIn s.config t
queueing_in m s l t g = chosen (strip (codes "queue ") l) _ _ _ g
    (λ r a b. bind (read_queue r) _ t b (λ q c d. inl (m, q, sym (cond_some (are_queues s.config.slots (s.config.queues ++ q ∷ [])) (Queueing m (with_queue s q)) t d).1)))
    (λ a b. inr (top_in m s l t b))

-- ---- which states lead to a script of a configuration

abbrev Matches : Config → Reader → Type 0
Matches c (Start m) = Unit {0}
Matches c (Queueing m s) = is_begun s.config c ≡ true
Matches c (Top m s) = s.config ≡ c
Matches c (Filling m (s, n) d) = s.config ≡ c
Matches c (Reserving m (s, n) t) = s.config ≡ c
Matches c (Asking m s b k) = s.config ≡ c

in_matches : (c : Config) (t : Reader) → IsIn c t → Matches c t
in_matches c (Start m) h = absurd h
in_matches c (Queueing m s) h = absurd h
in_matches c (Top m s) h = h
in_matches c (Filling m (s, n) d) h = h
in_matches c (Reserving m (s, n) t) h = h
in_matches c (Asking m s b k) h = h

in_same : (c d : Config) (t : Reader) → IsIn c t → Matches d t → c ≡ d
in_same c d (Start m) h k = absurd h
in_same c d (Queueing m s) h k = absurd h
in_same c d (Top m s) h k = sym h ∙ k
in_same c d (Filling m (s, n) f) h k = sym h ∙ k
in_same c d (Reserving m (s, n) t) h k = sym h ∙ k
in_same c d (Asking m s b in_setup) h k = sym h ∙ k

in_fits : (c d : Config) (full : Bool) (t : Reader) → IsIn d t → fits c full t ≡ full
in_fits c d full (Start m) h = absurd h
in_fits c d full (Queueing m s) h = absurd h
in_fits c d full (Top m s) h = refl
in_fits c d full (Filling m (s, n) f) h = refl
in_fits c d full (Reserving m (s, n) t) h = refl
in_fits c d full (Asking m s b k) h = refl

-- from one state to the next
queued_next : (c : Config) (s : Script) (t : Reader) → is_begun s.config c ≡ true → IsQueued s t ⊎ IsIn s.config t → fits c (has_all_queues s.config c) t ≡ true → Matches c t
queued_next c s t h (inl k) f = subst (Matches c) (sym k.2) (subst (λ x. fits c (has_all_queues s.config c) x ≡ true) k.2 f)
queued_next c s t h (inr k) f =
    let full : has_all_queues s.config c ≡ true = sym (in_fits c s.config (has_all_queues s.config c) t k) ∙ f in
    in_matches c t (subst (λ d. IsIn d t) (begun_whole s.config c h full) k)

matches_next : (c : Config) (s t : Reader) (l : List ℕ) → Matches c s → script.next s l ≡ Some t → fits c (is_full c s) t ≡ true → Matches c t
matches_next c (Start m) t l h g f = let k = start_in m l t g in subst (Matches c) (sym k.2) (subst (λ x. fits c true x ≡ true) k.2 f)
matches_next c (Queueing m s) t l h g f = queued_next c s t h (queueing_in m s l t g) f
matches_next c (Top m s) t l h g f = in_matches c t (block_in c (Top m s) t l h g)
matches_next c (Filling m (s, n) d) t l h g f = in_matches c t (block_in c (Filling m (s, n) d) t l h g)
matches_next c (Reserving m (s, n) r) t l h g f = in_matches c t (block_in c (Reserving m (s, n) r) t l h g)
matches_next c (Asking m s b k) t l h g f = in_matches c t (block_in c (Asking m s b k) t l h g)

-- and back
queued_before : (c : Config) (s : Script) (t : Reader) → Matches c t → IsQueued s t ⊎ IsIn s.config t → (is_begun s.config c ≡ true) × (fits c (has_all_queues s.config c) t ≡ true)
queued_before c s t h (inl k) =
    let b : is_begun (with_queue s k.1).config c ≡ true = subst (Matches c) k.2 h in
    (begun_before s.config c (k.1 ∷ []) b, subst (λ x. fits c (has_all_queues s.config c) x ≡ true) (sym k.2) b)
queued_before c s t h (inr k) =
    let same : s.config ≡ c = in_same s.config c t k h in
    (subst (λ d. is_begun d c ≡ true) (sym same) (begun_same c), in_fits c s.config (has_all_queues s.config c) t k ∙ subst (λ d. has_all_queues d c ≡ true) (sym same) (all_same c))

block_before : (c d : Config) (s t : Reader) (l : List ℕ) → IsIn d s → Matches c t → script.next s l ≡ Some t → (d ≡ c) × (fits c true t ≡ true)
block_before c d s t l i h g = let k = block_in d s t l i g in (in_same d c t k h, in_fits c d true t k)

matches_before : (c : Config) (s t : Reader) (l : List ℕ) → Matches c t → script.next s l ≡ Some t → Matches c s × (fits c (is_full c s) t ≡ true)
matches_before c (Start m) t l h g = let k = start_in m l t g in (tt, subst (λ x. fits c true x ≡ true) (sym k.2) (subst (Matches c) k.2 h))
matches_before c (Queueing m s) t l h g = queued_before c s t h (queueing_in m s l t g)
matches_before c (Top m s) t l h g = block_before c s.config (Top m s) t l refl h g
matches_before c (Filling m (s, n) d) t l h g = block_before c s.config (Filling m (s, n) d) t l refl h g
matches_before c (Reserving m (s, n) r) t l h g = block_before c s.config (Reserving m (s, n) r) t l refl h g
matches_before c (Asking m s b k) t l h g = block_before c s.config (Asking m s b k) t l refl h g

-- and at the end
matches_end : (c : Config) (t : Reader) (q : Script) → Matches c t → is_full c t ≡ true → script.ends t ≡ Some q → q.config ≡ c
matches_end c (Start m) q h f e = absurd (none-some _ e)
matches_end c (Queueing m s) q h f e = subst (λ (x : Script). x.config ≡ c) (same_Some s q e) (begun_whole s.config c h f)
matches_end c (Top m s) q h f e = subst (λ (x : Script). x.config ≡ c) (same_Some s q e) h
matches_end c (Filling m (s, n) d) q h f e = absurd (none-some _ e)
matches_end c (Reserving m (s, n) r) q h f e = absurd (none-some _ e)
matches_end c (Asking m s b k) q h f e = absurd (none-some _ e)

end_matches : (c : Config) (t : Reader) (q : Script) → script.ends t ≡ Some q → q.config ≡ c → Matches c t × (is_full c t ≡ true)
end_matches c (Start m) q e h = absurd (none-some _ e)
end_matches c (Queueing m s) q e h =
    let same : s.config ≡ c = ap (λ (x : Script). x.config) (same_Some s q e) ∙ h in
    (subst (λ d. is_begun d c ≡ true) (sym same) (begun_same c), subst (λ d. has_all_queues d c ≡ true) (sym same) (all_same c))
end_matches c (Top m s) q e h = (ap (λ (x : Script). x.config) (same_Some s q e) ∙ h, refl)
end_matches c (Filling m (s, n) d) q e h = absurd (none-some _ e)
end_matches c (Reserving m (s, n) r) q e h = absurd (none-some _ e)
end_matches c (Asking m s b k) q e h = absurd (none-some _ e)

-- ---- what was read is a script of the journal's machine and queues

abbrev Goes : MatchingReader → List ℕ → MatchingReader → Type 0
Goes r l u = next_matching r l ≡ Some u

record IsBehind (ls : List (List ℕ)) (r : MatchingReader) : Type 0 where
  behind : Behind Serial ls r.reader
  matches : Matches r.journal.config r.reader

-- behind more lines of one journal
abbrev Comes : Journal → List (List ℕ) → MatchingReader → Type 0
Comes j ls u = IsBehind ls u × (u.journal ≡ j)

line_more : (ls : List (List ℕ)) (l : List ℕ) (r u : MatchingReader) → IsBehind ls r → Goes r l u → Comes r.journal (ls ++ l ∷ []) u
line_more ls l r u h g = bind (script.next r.reader l) _ u g (λ t a b.
    let k = cond_some (fits r.journal.config (is_full r.journal.config r.reader) t) (record { journal = r.journal; reader = t }) u b in
    let on : IsBehind (ls ++ l ∷ []) (record { journal = r.journal; reader = t }) =
    record { behind = behind_more Serial ls l r.reader t h.behind a; matches = matches_next r.journal.config r.reader t l h.matches a k.0 } in
    subst (Comes r.journal (ls ++ l ∷ [])) k.1 (on, refl))

lines_more : (front ls : List (List ℕ)) (r u : MatchingReader) → IsBehind front r → Runs Goes r ls u → Comes r.journal (front ++ ls) u
lines_more front [] r u h q = subst (Comes r.journal (front ++ [])) q (subst (λ ks. IsBehind ks r) (sym (append-nil front)) h, refl)
lines_more front (l ∷ ls) r u h q =
    let one = line_more front l r q.0 h q.1 in
    let rest = lines_more (front ++ l ∷ []) ls q.0 u one.0 q.2 in
    (subst (λ ks. IsBehind ks u) (append_assoc front (l ∷ []) ls) rest.0, rest.1 ∙ one.1)

at_start : (r : MatchingReader) → IsStart r → IsBehind [] r
at_start r h = record {
  behind = subst (Behind Serial []) (sym h.start) (refl, refl);
  matches = subst (Matches r.journal.config) (sym h.start) tt;
}

script_end : (ls : List (List ℕ)) (t : Reader) (q : Script) → Behind Serial ls t → script.ends t ≡ Some q → scripts.Spells Serial ls q
script_end ls (Start m) q b e = absurd (none-some _ e)
script_end ls (Queueing m s) q b e = subst (scripts.Spells Serial ls) (same_Some s q e) (queueing_spelled Serial ls s b.0)
script_end ls (Top m s) q b e = subst (scripts.Spells Serial ls) (same_Some s q e) b.0
script_end ls (Filling m (s, n) d) q b e = absurd (none-some _ e)
script_end ls (Reserving m (s, n) r) q b e = absurd (none-some _ e)
script_end ls (Asking m s b k) q h e = absurd (none-some _ e)

script_read : (ls : List (List ℕ)) (r : MatchingReader) (q : Continued) → IsBehind ls r → is_full r.journal.config r.reader ≡ true → ended r.journal r.reader ≡ Some q → SpellsBehind r.journal ls q
script_read ls r q h f e = bind (script.ends r.reader) _ q e (λ s a b.
    let on : SpellsBehind r.journal ls (record { journal = r.journal; script = s }) =
    record { journal = refl; script = script_end ls r.reader s h.behind a; same = matches_end r.journal.config r.reader s h.matches f a } in
    subst (SpellsBehind r.journal ls) (same_Some _ _ b) on)

text_read : (ls : List (List ℕ)) (r : MatchingReader) (q : Continued) → IsBehind ls r → ends_matching r ≡ Some q → SpellsBehind r.journal ls q
text_read ls r q h e = by_test (is_full r.journal.config r.reader)
    (λ f. script_read ls r q h f (rw f at e))
    (λ f. absurd (none-some _ (rw f at e)))

sound : (first : MatchingReader) → IsStart first → (ls : List (List ℕ)) (t : MatchingReader) (q : Continued) → Runs Goes first ls t → ends_matching t ≡ Some q → SpellsBehind first.journal ls q
sound first h ls t q r e =
    let b = lines_more [] ls first t (at_start first h) r in
    subst (λ j. SpellsBehind j ls q) b.1 (text_read ls t q b.0 e)

-- ---- and such a script is read

abbrev at : Journal → Reader → MatchingReader
at j s = record { journal = j; reader = s }

step_back : (j : Journal) (s t : Reader) (l : List ℕ) → Matches j.config t → script.next s l ≡ Some t → Matches j.config s × Goes (at j s) l (at j t)
step_back j s t l m g =
    let b = matches_before j.config s t l m g in
    let fit : matched j (is_full j.config s) t ≡ Some (at j t) = rw b.1 refl in
    (b.0, ap (λ o. o >>= matched j (is_full j.config s)) g ∙ fit)

run_back : (j : Journal) (s t : Reader) (ls : List (List ℕ)) → Matches j.config t → Runs (GoesBy (from script.scripts_stepping (Start Serial))) s ls t → Matches j.config s × Runs Goes (at j s) ls (at j t)
run_back j s t [] m r = (subst (Matches j.config) (sym r) m, ap (at j) r)
run_back j s t (l ∷ ls) m r =
    let rest = run_back j r.0 t ls m r.2 in
    let one = step_back j s r.0 l rest.0 r.1 in
    (one.0, (at j r.0, one.1, rest.1))

abbrev Reached : MatchingReader → List (List ℕ) → Continued → Type 0
Reached first ls q = (t : MatchingReader) × Runs Goes first ls t × (ends_matching t ≡ Some q)

end_again : (j : Journal) (t : Reader) (q : Script) → is_full j.config t ≡ true → script.ends t ≡ Some q → ends_matching (at j t) ≡ Some (record { journal = j; script = q })
end_again j t q f e = rw f (ap (λ o. o >>= λ s. Some (record { journal = j; script = s })) e)

read_again : (j : Journal) (ls : List (List ℕ)) (q : Script) → scripts.Spells Serial ls q → q.config ≡ j.config → Reached (at j (Start Serial)) ls (record { journal = j; script = q })
read_again j ls q s same =
    let c = (reads_scripts (Start Serial) refl).complete ls q s in
    let m = end_matches j.config c.0 q c.2 same in
    (at j c.0, (run_back j (Start Serial) c.0 ls m.0 c.1).1, end_again j c.0 q m.1 c.2)

complete : (first : MatchingReader) → IsStart first → (ls : List (List ℕ)) (q : Continued) → SpellsBehind first.journal ls q → Reached first ls q
complete first h ls q s =
    let r = read_again first.journal ls q.script s.script s.same in
    subst (λ f. Reached (at first.journal f) ls q) (sym h.start) (subst (λ j. Reached (at first.journal (Start Serial)) ls (record { journal = j; script = q.script })) (sym s.journal) r)

-- ---- from every state such a script goes on

-- a machine of a journal is one of a script
suspend_valid : (b : Bool) → suspend.valid b
unfolding suspend
suspend_valid true = refl
suspend_valid false = refl

machine_valid : (c : Config) → journals.header.valid c → header.valid (machine_of c)
unfolding journals.header journals.title journals.machine header checked behind pair
machine_valid c v = ((v.0.0.0.0, (v.0.0.0.1.0, suspend_valid c.suspend)), (both (is_machine (machine_of c)) (are_queues c.slots c.queues) v.0.1).0)

queues_valid : (c : Config) → journals.header.valid c → AllByRecursion queue.valid c.queues
unfolding journals.header journals.title checked behind pair queues list_of
queues_valid c v = v.0.0.1

may_have : (c : Config) → journals.header.valid c → are_queues c.slots c.queues ≡ true
unfolding journals.header journals.title checked
may_have c v = (both (is_machine (machine_of c)) (are_queues c.slots c.queues) v.0.1).1

size_is : (c : Config) → journals.header.valid c → c.journal ≡ 4_000_000
unfolding journals.header
size_is c v = v.1

-- the lines of queues
queue_lines : (qs : List QueueSpec) → AllByRecursion queue.valid qs → AreLines (map queue_text qs)
queue_lines [] v = tt
queue_lines (q ∷ qs) v = ((clean_behind (codes "queue ") (queue.spell q) refl (queue_laws.clean q v.0)).one_line, queue_lines qs v.1)

queues_unskipped : (qs : List QueueSpec) → unskipped_lines (map queue_text qs) ≡ map queue_text qs
queues_unskipped [] = refl
queues_unskipped (q ∷ qs) = ap (λ ks. queue_text q ∷ ks) (queues_unskipped qs)

header_unskipped : (m : ℕ × (List ℕ × Bool)) (ls : List (List ℕ)) → unskipped_lines (header.spell m ∷ ls) ≡ header.spell m ∷ unskipped_lines ls
unfolding header checked behind
header_unskipped m ls = refl

valid_behind : (ps qs : List QueueSpec) → AllByRecursion queue.valid (ps ++ qs) → AllByRecursion queue.valid qs
valid_behind [] qs v = v
valid_behind (p ∷ ps) qs v = valid_behind ps qs v.1

-- the script of a machine and its queues alone
head_lines : Config → List (List ℕ)
head_lines c = header.spell (machine_of c) ∷ map queue_text c.queues

head_spelled : (c : Config) → journals.header.valid c → scripts.Spells Serial (head_lines c) (begun (machine_of c) c.queues)
unfolding head_lines
head_spelled c v = record {
  machine = machine_of c;
  valid = machine_valid c v;
  queues = c.queues;
  each = queues_valid c v;
  queued = may_have c v;
  parts = [];
  makes = refl;
  text = ap (λ ks. header.spell (machine_of c) ∷ ks) (sym (append-nil (map queue_text c.queues)));
}

head_config : (c : Config) → journals.header.valid c → (begun (machine_of c) c.queues).config ≡ c
head_config c v = ap (λ n. record c { journal = n }) (sym (size_is c v))

head_behind : (j : Journal) → journals.header.valid j.config → SpellsBehind j (head_lines j.config) (record { journal = j; script = begun (machine_of j.config) j.config.queues })
head_behind j v = record { journal = refl; script = head_spelled j.config v; same = head_config j.config v }

start_on : (j : Journal) → journals.header.valid j.config → (ls : List (List ℕ)) → ls ≡ [] → GoesOn (SpellsBehind j) ls
unfolding head_lines
start_on j v ls e = record {
  more = head_lines j.config;
  are_lines = ((header_laws.clean (machine_of j.config) (machine_valid j.config v)).one_line, queue_lines j.config.queues (queues_valid j.config v));
  text = record { journal = j; script = begun (machine_of j.config) j.config.queues };
  spelled = subst (λ ks. SpellsBehind j (ks ++ head_lines j.config) (record { journal = j; script = begun (machine_of j.config) j.config.queues })) (sym e) (head_behind j v);
  unskipped = header_unskipped (machine_of j.config) (map queue_text j.config.queues) ∙ ap (λ ks. header.spell (machine_of j.config) ∷ ks) (queues_unskipped j.config.queues);
}

-- the lines so far, and those of the queues that are left
queues_left : (c : Config) (s : Script) (ls : List (List ℕ)) (rest : List QueueSpec) → IsQueueing ls s → record s.config { queues = c.queues } ≡ c → c.queues ≡ s.config.queues ++ rest
    → ls ++ map queue_text rest ≡ head_lines c
unfolding head_lines
queues_left c s ls rest h same all =
    let P : Script → Type 0 = λ x. header.spell (machine_of x.config) ∷ map queue_text x.config.queues ≡ ls in
    let now : P s = subst P (sym h.script) (sym h.text) in
    let machine : machine_of s.config ≡ machine_of c = ap machine_of same in
    ap (λ ks. ks ++ map queue_text rest) (sym now)
    ∙ ap (λ ks. header.spell (machine_of s.config) ∷ ks) (sym (map-append queue_text s.config.queues rest) ∙ ap (map queue_text) (sym all))
    ∙ ap (λ m. header.spell m ∷ map queue_text c.queues) machine

queueing_on : (j : Journal) → journals.header.valid j.config → (ls : List (List ℕ)) (s : Script) → IsQueueing ls s → is_begun s.config j.config ≡ true → GoesOn (SpellsBehind j) ls
queueing_on j v ls s h b =
    let longer = begun_is s.config j.config b in
    let valid : AllByRecursion queue.valid longer.rest = valid_behind s.config.queues longer.rest (subst (AllByRecursion queue.valid) longer.queues (queues_valid j.config v)) in
    record {
      more = map queue_text longer.rest;
      are_lines = queue_lines longer.rest valid;
      text = record { journal = j; script = begun (machine_of j.config) j.config.queues };
      spelled = subst (λ ks. SpellsBehind j ks (record { journal = j; script = begun (machine_of j.config) j.config.queues })) (sym (queues_left j.config s ls longer.rest h longer.all longer.queues)) (head_behind j v);
      unskipped = queues_unskipped longer.rest;
    }

-- a script that ends here, or with the last line of its block
whole_on : (j : Journal) (ls : List (List ℕ)) (s : Script) → scripts.Spells Serial ls s → s.config ≡ j.config → GoesOn (SpellsBehind j) ls
whole_on j ls s h same = record {
  more = [];
  are_lines = tt;
  text = record { journal = j; script = s };
  spelled = record { journal = refl; script = subst (λ ks. scripts.Spells Serial ks s) (sym (append-nil ls)) h; same = same };
  unskipped = refl;
}

block_on : (j : Journal) (ls : List (List ℕ)) (t : Reader) (s : Script) → Behind Serial ls t → script.next t (codes "end") ≡ Some (Top Serial s) → s.config ≡ j.config → GoesOn (SpellsBehind j) ls
block_on j ls t s b g same = record {
  more = codes "end" ∷ [];
  are_lines = (refl, tt);
  text = record { journal = j; script = s };
  spelled = record { journal = refl; script = (behind_more Serial ls (codes "end") t (Top Serial s) b g).0; same = same };
  unskipped = refl;
}

on_from : (j : Journal) → journals.header.valid j.config → (ls : List (List ℕ)) (t : Reader) → Behind Serial ls t → Matches j.config t → GoesOn (SpellsBehind j) ls
on_from j v ls (Start m) b h = start_on j v ls b.0
on_from j v ls (Queueing m s) b h = queueing_on j v ls s b.0 h
on_from j v ls (Top m s) b h = whole_on j ls s b.0 h
on_from j v ls (Filling m (s, n) d) b h =
    block_on j ls (Filling m (s, n) d) (with_template s n d.template) b (ap (λ k. Some (Top k (with_template s n d.template))) b.1) h
on_from j v ls (Reserving m (s, n) r) b h =
    block_on j ls (Reserving m (s, n) r) (with_reservation s n r) b (ap (λ k. Some (Top k (with_reservation s n r))) b.1) h
on_from j v ls (Asking m s c k) b h =
    block_on j ls (Asking m s c k) (with_block s c k) b (ap (λ o. Some (Top o (with_block s c k))) b.1) (block_config s c k ∙ h)

goes_on : (first : MatchingReader) → IsStart first → (ls : List (List ℕ)) (t : MatchingReader) → Runs Goes first ls t → GoesOn (SpellsBehind first.journal) ls
goes_on first h ls t r =
    let b = lines_more [] ls first t (at_start first h) r in
    let v : journals.header.valid t.journal.config = subst (λ (j : Journal). journals.header.valid j.config) (sym b.1) h.writable.config in
    subst (λ j. GoesOn (SpellsBehind j) ls) b.1 (on_from t.journal v ls t.reader b.0.behind b.0.matches)

pub reads_matching : (first : MatchingReader) → matching.is_first first → Reads (GoesBy (from matching first)) first matching.ends (matching.Spells first)
reads_matching first h = record { sound = sound first h; complete = complete first h; goes_on = goes_on first h }
