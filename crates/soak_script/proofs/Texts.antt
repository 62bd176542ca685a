-- Texts that were written in pieces.
use Rattle.std.proofs.Common.{◌≡◌, ℕ, ◌+◌, ◌-◌, ◌<◌, ◌≤◌, nat_lt, List, [], ◌∷◌, ◌++◌, if◌then◌else◌, codes, refl, sym, ap, ◌∙◌, append_assoc, append-nil, add-one, arith}
use Rattle.std.proofs.lemmas.Bool.Decides.{nat_tests}
use Rattle.std.proofs.lemmas.Grind.{flat_map-append}
use Rattle.text_codec.specs.StepLaws.{by_test}
use Rattle.text_lines.specs.Lines.{ended}
use Rattle.soak_script.specs.Draws.{draw, next_draw}
use Rattle.soak_script.specs.Lines.{soak_script, soak_text, first_lines, client_lines, for_each, template_lines, step_lines, reservation_of, at_line, step_line, ended_lines}

-- the bytes of lines
lines_append : (xs ys : List (List ℕ)) → ended (xs ++ ys) ≡ ended xs ++ ended ys
lines_append xs ys = flat_map-append (λ l. l ++ 10 ∷ []) xs ys

pub more_lines : (s t u : List ℕ) (xs ys : List (List ℕ)) → t ≡ s ++ ended xs → u ≡ t ++ ended ys → u ≡ s ++ ended (xs ++ ys)
more_lines s t u xs ys e f = f ∙ ap (λ x. x ++ ended ys) e ∙ append_assoc s (ended xs) (ended ys) ∙ ap (λ x. s ++ x) (sym (lines_append xs ys))

-- a number behind a text, and what stands behind it
join : (s a d r : List ℕ) → (s ++ (a ++ d)) ++ r ≡ s ++ (a ++ (d ++ r))
join s a d r = append_assoc s (a ++ d) r ∙ ap (λ x. s ++ x) (append_assoc a d r)

-- three numbers, each behind a text, and a text at the end
pub three : (s s1 s2 s3 s4 a d b e c f g : List ℕ) → s1 ≡ s ++ (a ++ d) → s2 ≡ s1 ++ (b ++ e) → s3 ≡ s2 ++ (c ++ f) → s4 ≡ s3 ++ g
    → s4 ≡ s ++ (a ++ (d ++ (b ++ (e ++ (c ++ (f ++ g))))))
three s s1 s2 s3 s4 a d b e c f g h1 h2 h3 h4 =
    h4 ∙ ap (λ x. x ++ g) (h3 ∙ ap (λ x. x ++ (c ++ f)) (h2 ∙ ap (λ x. x ++ (b ++ e)) h1))
    ∙ join ((s ++ (a ++ d)) ++ (b ++ e)) c f g ∙ join (s ++ (a ++ d)) b e (c ++ (f ++ g)) ∙ join s a d (b ++ (e ++ (c ++ (f ++ g))))

-- a number at the end of its line, and what follows
line_end : (d r : List ℕ) → d ++ (10 ∷ r) ≡ (d ++ 10 ∷ []) ++ r
line_end d r = sym (append_assoc d (10 ∷ []) r)

-- the lines of the end of a run
pub end_text : (d : List ℕ) → codes "exit j" ++ (d ++ (codes " 0\nterminate s j" ++ (d ++ (codes "\nreap s j" ++ (d ++ 10 ∷ [])))))
    ≡ ended ((codes "exit j" ++ (d ++ codes " 0")) ∷ (codes "terminate s j" ++ d) ∷ (codes "reap s j" ++ d) ∷ [])
end_text d =
    ap (λ x. codes "exit j" ++ (d ++ (codes " 0\nterminate s j" ++ (d ++ (codes "\nreap s j" ++ x))))) (sym (append-nil (d ++ 10 ∷ [])))
    ∙ ap (λ x. codes "exit j" ++ (d ++ (codes " 0\nterminate s j" ++ x))) (line_end d (codes "reap s j" ++ ((d ++ 10 ∷ []) ++ [])))
    ∙ ap (λ x. codes "exit j" ++ x) (sym (append_assoc d (codes " 0") (10 ∷ (codes "terminate s j" ++ ((d ++ 10 ∷ []) ++ (codes "reap s j" ++ ((d ++ 10 ∷ []) ++ [])))))))
    ∙ ap (λ x. codes "exit j" ++ x) (line_end (d ++ codes " 0") (codes "terminate s j" ++ ((d ++ 10 ∷ []) ++ (codes "reap s j" ++ ((d ++ 10 ∷ []) ++ [])))))

-- those of a reservation's template
abbrev fixed : List ℕ
fixed = codes "duration 500\nminslots 8\nend\n"

pub reservation_text : (d e f : List ℕ) → codes "rtemplate x" ++ (d ++ (codes "\nstart @" ++ (e ++ (codes "\nend @" ++ (f ++ (10 ∷ fixed))))))
    ≡ ended ((codes "rtemplate x" ++ d) ∷ (codes "start @" ++ e) ∷ (codes "end @" ++ f) ∷ codes "duration 500" ∷ codes "minslots 8" ∷ codes "end" ∷ [])
reservation_text d e f =
    ap (λ x. codes "rtemplate x" ++ (d ++ (codes "\nstart @" ++ (e ++ (codes "\nend @" ++ x))))) (line_end f fixed)
    ∙ ap (λ x. codes "rtemplate x" ++ (d ++ (codes "\nstart @" ++ x))) (line_end e (codes "end @" ++ ((f ++ 10 ∷ []) ++ fixed)))
    ∙ ap (λ x. codes "rtemplate x" ++ x) (line_end d (codes "start @" ++ ((e ++ 10 ∷ []) ++ (codes "end @" ++ ((f ++ 10 ∷ []) ++ fixed)))))

-- the whole script
pub whole_text : (steps seed : ℕ) (s s1 s2 s3 s4 s5 : List ℕ) → s ≡ [] → s1 ≡ s ++ ended first_lines → s2 ≡ s1 ++ ended (for_each (template_lines seed) steps)
    → s3 ≡ s2 ++ ended client_lines → s4 ≡ s3 ++ ended (for_each (step_lines seed) steps) → s5 ≡ s4 ++ ended (codes "end" ∷ []) → s5 ≡ soak_text steps seed
unfolding soak_script
whole_text steps seed s s1 s2 s3 s4 s5 h h1 h2 h3 h4 h5 =
    let last = more_lines s3 s4 s5 (for_each (step_lines seed) steps) (codes "end" ∷ []) h4 h5 in
    let third = more_lines s2 s3 s5 client_lines (for_each (step_lines seed) steps ++ codes "end" ∷ []) h3 last in
    let second = more_lines s1 s2 s5 (for_each (template_lines seed) steps) (client_lines ++ (for_each (step_lines seed) steps ++ codes "end" ∷ [])) h2 third in
    let first = more_lines s s1 s5 first_lines (for_each (template_lines seed) steps ++ (client_lines ++ (for_each (step_lines seed) steps ++ codes "end" ∷ []))) h1 second in
    first ∙ ap (λ x. x ++ soak_text steps seed) h

-- ---- one step more

pub draw_first : (seed : ℕ) → draw seed 0 ≡ seed
unfolding draw
draw_first seed = refl

pub draw_more : (seed step : ℕ) → draw seed (step + 1) ≡ next_draw (draw seed step)
unfolding draw
draw_more seed step = ap (draw seed) (add-one step)

for_each_more : (f : ℕ → List (List ℕ)) (step : ℕ) → for_each f (step + 1) ≡ for_each f step ++ f (step + 1)
for_each_more f step = ap (for_each f) (add-one step) ∙ ap (λ k. for_each f step ++ f k) (sym (add-one step))

pub step_more : (f : ℕ → List (List ℕ)) (step : ℕ) (s t u : List ℕ) → t ≡ s ++ ended (for_each f step) → u ≡ t ++ ended (f (step + 1)) → u ≡ s ++ ended (for_each f (step + 1))
step_more f step s t u e g = more_lines s t u (for_each f step) (f (step + 1)) e g ∙ ap (λ x. s ++ ended x) (sym (for_each_more f step))

pub template_more : (seed step draw' : ℕ) (s t u : List ℕ) → draw' ≡ draw seed (step + 1) → t ≡ s ++ ended (for_each (template_lines seed) step)
    → u ≡ t ++ ended (reservation_of (step + 1) draw') → u ≡ s ++ ended (for_each (template_lines seed) (step + 1))
template_more seed step draw' s t u d e g =
    step_more (template_lines seed) step s t u e (g ∙ ap (λ x. t ++ ended (reservation_of (step + 1) x)) d)

pub steps_more : (seed step draw' ended_draw : ℕ) (s t u v : List ℕ) → draw' ≡ draw seed (step + 1) → ended_draw ≡ draw seed (step + 1 - 50)
    → t ≡ s ++ ended (for_each (step_lines seed) step) → u ≡ t ++ ended (at_line (step + 1) ∷ step_line (step + 1) draw' ∷ codes "launch" ∷ [])
    → v ≡ u ++ ended (ended_lines (step + 1) ended_draw) → v ≡ s ++ ended (for_each (step_lines seed) (step + 1))
steps_more seed step draw' ended_draw s t u v d d' e g h =
    let both = more_lines t u v (at_line (step + 1) ∷ step_line (step + 1) draw' ∷ codes "launch" ∷ []) (ended_lines (step + 1) ended_draw) g h in
    step_more (step_lines seed) step s t v e
    (both ∙ ap (λ x. t ++ ended (at_line (step + 1) ∷ step_line (step + 1) x ∷ codes "launch" ∷ ended_lines (step + 1) ended_draw)) d
    ∙ ap (λ x. t ++ ended (at_line (step + 1) ∷ step_line (step + 1) (draw seed (step + 1)) ∷ codes "launch" ∷ ended_lines (step + 1) x)) d')

pub ended_next : (seed step d e : ℕ) → d ≡ draw seed (step - 50) → e ≡ (if nat_lt 50 (step + 1) then next_draw d else d) → e ≡ draw seed (step + 1 - 50)
ended_next seed step d e is next = by_test (nat_lt 50 (step + 1))
    (λ t.
    let past : 50 < step + 1 = grind (arith, nat_tests) in
    let place : step - 50 + 1 ≡ step + 1 - 50 = omega (arith, past) in
    (rw t at next) ∙ ap next_draw is ∙ sym (draw_more seed (step - 50)) ∙ ap (draw seed) place)
    (λ f.
    let early : step + 1 ≤ 50 = grind (arith, nat_tests) in
    let place : step - 50 ≡ step + 1 - 50 = omega (arith, early) in
    (rw f at next) ∙ is ∙ ap (draw seed) place)
