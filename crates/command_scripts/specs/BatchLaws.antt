-- What the reader of commands has read.
use Rattle.std.proofs.Common.{◌≡◌, ℕ, ◌+◌, ◌-◌, ◌<◌, ◌≤◌, ◌&&◌, nat_lt, nat_le, true, List, [], ◌∷◌, ◌++◌, length, Option, Some, refl, sym, ap, subst, ◌∙◌, arith, append_assoc, append-nil, length-append}
use Rattle.std.proofs.lemmas.Bool.Decides.{nat_tests}
use Rattle.std.proofs.lemmas.Option.{none-some, same_Some, cond_some}
use Rattle.text_codec.specs.StepLaws.{both, by_test}
use Rattle.text_lines.specs.Automata.{GoesBy, Runs, Reads, from}
use Rattle.command_scripts.specs.declared.batches.Batch.{Batch}
use Rattle.command_scripts.specs.declared.batches.Machine.{Machine}
use Rattle.command_scripts.specs.declared.reading.Reader.{Reader}
use Rattle.command_scripts.specs.Batches.{filled, is_command, are_commands, most_lines, SpellsBatch}
use Rattle.command_scripts.specs.Reading.{frame_size, command_size, IsFirst, with_empty, grown, with_command, next, ends, batches_stepping}
use Rattle.command_scripts.specs.SizeLaws.{commands_size, script_size}

-- one line more leads from one state to another
abbrev pub Goes : Reader → List ℕ → Reader → Type 0
Goes r l t = next r l ≡ Some t

-- what lines lead to: each that is not empty is the next command, and the room is left that they do not take
record IsBehind (r t : Reader) (ls : List (List ℕ)) : Type 0 where
  machine : t.machine ≡ r.machine
  lines : t.lines ≡ r.lines + length ls
  commands : t.commands ≡ r.commands ++ filled ls
  each : are_commands (length r.commands + 1) (filled ls) ≡ true
  room : t.room + commands_size (length r.commands + 1) (filled ls) ≡ r.room
  few : r.lines ≤ most_lines → t.lines ≤ most_lines

-- one step
record IsStep (r t : Reader) (l : List ℕ) : Type 0 where
  machine : t.machine ≡ r.machine
  lines : t.lines ≡ r.lines + 1
  few : r.lines < most_lines
  commands : t.commands ≡ r.commands ++ filled (l ∷ [])
  each : are_commands (length r.commands + 1) (filled (l ∷ [])) ≡ true
  room : t.room + commands_size (length r.commands + 1) (filled (l ∷ [])) ≡ r.room

less : (n m : ℕ) → nat_lt n m ≡ true → n < m
less n m h = grind (arith, nat_tests)

less_again : (n m : ℕ) → n < m → nat_lt n m ≡ true
less_again n m h = grind (arith, nat_tests)

at_most : (n m : ℕ) → nat_le n m ≡ true → n ≤ m
at_most n m h = grind (arith, nat_tests)

at_most_again : (n m : ℕ) → n ≤ m → nat_le n m ≡ true
at_most_again n m h = grind (arith, nat_tests)

step_found : (r t : Reader) (l : List ℕ) → Goes r l t → IsStep r t l
step_found r t [] e =
    let k = cond_some (nat_lt r.lines most_lines) (with_empty r) t e in
    subst (λ u. IsStep r u []) k.1
    (record { machine = refl; lines = refl; few = less r.lines most_lines k.0; commands = sym (append-nil r.commands); each = refl; room = omega arith })
step_found r t (b ∷ bs) e =
    by_test (nat_lt r.lines most_lines)
    (λ f.
    let n = length r.commands + 1 in
    let l = b ∷ bs in
    let e' : with_command r l ≡ Some t = rw f at e in
    let k = cond_some (is_command n l && nat_le (command_size n l) r.room) (grown r l (command_size n l)) t e' in
    let parts = both (is_command n l) (nat_le (command_size n l) r.room) k.0 in
    let fits = at_most (command_size n l) r.room parts.1 in
    subst (λ u. IsStep r u l) k.1
    (record { machine = refl; lines = refl; few = less r.lines most_lines f; commands = refl; each = rw parts.0 refl; room = omega (arith, fits) }))
    (λ f. absurd (none-some _ (rw f at e)))

step_again : (r : Reader) (l : List ℕ) → r.lines < most_lines → are_commands (length r.commands + 1) (filled (l ∷ [])) ≡ true → commands_size (length r.commands + 1) (filled (l ∷ [])) ≤ r.room
    → (t : Reader) × Goes r l t
step_again r [] few each room = (with_empty r, rw (less_again r.lines most_lines few) refl)
step_again r (b ∷ bs) few each room =
    let n = length r.commands + 1 in
    let l = b ∷ bs in
    let command = (both (is_command n l) true each).0 in
    let fits : command_size n l ≤ r.room = omega (arith, room) in
    (grown r l (command_size n l), rw (less_again r.lines most_lines few, command, at_most_again (command_size n l) r.room fits) refl)

-- what lines lead to, from a state with these commands
abbrev After : Reader → Reader → List (List ℕ) → List (List ℕ) → Type 0
After m t ls cs = (t.commands ≡ cs ++ filled ls) × (are_commands (length cs + 1) (filled ls) ≡ true) × (t.room + commands_size (length cs + 1) (filled ls) ≡ m.room)

longer : {A : Type 0} (xs : List A) (x : A) → length (xs ++ x ∷ []) ≡ length xs + 1
longer xs x = length-append xs (x ∷ [])

join : (r m t : Reader) (l : List ℕ) (ls : List (List ℕ)) → IsStep r m l → IsBehind m t ls → IsBehind r t (l ∷ ls)
join r m t [] ls s h =
    let after : After m t ls r.commands = subst (After m t ls) (s.commands ∙ append-nil r.commands) (h.commands, h.each, h.room) in
    record {
      machine = h.machine ∙ s.machine;
      lines = omega (arith, h.lines, s.lines);
      commands = after.0;
      each = after.1;
      room = omega (arith, after.2, s.room);
      few = λ f. h.few (omega (arith, s.lines, s.few));
    }
join r m t (b ∷ bs) ls s h =
    let l = b ∷ bs in
    let n = length r.commands + 1 in
    let after : After m t ls (r.commands ++ l ∷ []) = subst (After m t ls) s.commands (h.commands, h.each, h.room) in
    let count : length (r.commands ++ l ∷ []) + 1 ≡ n + 1 = ap (λ k. k + 1) (longer r.commands l) in
    let others : are_commands (n + 1) (filled ls) ≡ true = subst (λ k. are_commands k (filled ls) ≡ true) count after.1 in
    let room : t.room + commands_size (n + 1) (filled ls) ≡ m.room = subst (λ k. t.room + commands_size k (filled ls) ≡ m.room) count after.2 in
    let command = (both (is_command n l) true s.each).0 in
    record {
      machine = h.machine ∙ s.machine;
      lines = omega (arith, h.lines, s.lines);
      commands = after.0 ∙ append_assoc r.commands (l ∷ []) (filled ls);
      each = rw (command, others) refl;
      room = omega (arith, room, s.room);
      few = λ f. h.few (omega (arith, s.lines, s.few));
    }

behind_run : (r t : Reader) (ls : List (List ℕ)) → Runs Goes r ls t → IsBehind r t ls
behind_run r t [] run =
    subst (λ u. IsBehind r u []) run (record { machine = refl; lines = omega arith; commands = sym (append-nil r.commands); each = refl; room = omega arith; few = λ f. f })
behind_run r t (l ∷ ls) run = join r run.0 t l ls (step_found r run.0 l run.1) (behind_run run.0 t ls run.2)

-- such lines are read
runs : (r : Reader) (ls : List (List ℕ)) → r.lines + length ls ≤ most_lines → are_commands (length r.commands + 1) (filled ls) ≡ true → commands_size (length r.commands + 1) (filled ls) ≤ r.room
    → (t : Reader) × Runs Goes r ls t
runs r [] few each room = (r, refl)
runs r ([] ∷ ls) few each room =
    let here : r.lines < most_lines = omega (arith, few) in
    let more = runs (with_empty r) ls (omega (arith, few)) each room in
    (more.0, (with_empty r, rw (less_again r.lines most_lines here) refl, more.1))
runs r ((b ∷ bs) ∷ ls) few each room =
    let l = b ∷ bs in
    let n = length r.commands + 1 in
    let size = command_size n l in
    let here : r.lines < most_lines = omega (arith, few) in
    let parts = both (is_command n l) (are_commands (n + 1) (filled ls)) each in
    let fits : size ≤ r.room = omega (arith, room) in
    let left : commands_size (n + 1) (filled ls) ≤ r.room - size = omega (arith, room) in
    let count : n + 1 ≡ length (r.commands ++ l ∷ []) + 1 = ap (λ k. k + 1) (sym (longer r.commands l)) in
    let more = runs (grown r l size) ls (omega (arith, few)) (subst (λ k. are_commands k (filled ls) ≡ true) count parts.1) (subst (λ k. commands_size k (filled ls) ≤ r.room - size) count left) in
    (more.0, (grown r l size, rw (less_again r.lines most_lines here, parts.0, at_most_again size r.room fits) refl, more.1))

-- what was read from the first state is a batch
batch_read : (first t : Reader) (ls : List (List ℕ)) → IsFirst first → IsBehind first t ls → SpellsBatch first.machine ls (record { machine = t.machine; commands = t.commands })
batch_read first t ls f h =
    let after : After first t ls [] = subst (After first t ls) f.commands (h.commands, h.each, h.room) in
    let size = script_size t.machine t.commands in
    let frame : frame_size t.machine ≡ frame_size first.machine = ap frame_size h.machine in
    let commands : commands_size 1 t.commands ≡ commands_size 1 (filled ls) = ap (commands_size 1) after.0 in
    let none : first.lines ≤ most_lines = omega (arith, f.lines) in
    record {
      machine = h.machine;
      commands = after.0;
      each = subst (λ cs. are_commands 1 cs ≡ true) (sym after.0) after.1;
      few = omega (arith, h.lines, h.few none, f.lines);
      within = omega (arith, size, frame, commands, after.2, f.room);
    }

same_batch : (m n : Machine) (cs ds : List (List ℕ)) → m ≡ n → cs ≡ ds → ◌≡◌ {A = Option Batch} (Some (record { machine = m; commands = cs })) (Some (record { machine = n; commands = ds }))
same_batch m n cs ds p q =
    ap (λ k. Some (record { machine = k; commands = cs })) p ∙ ap (λ ks. Some (record { machine = n; commands = ks })) q

sound : (first : Reader) → IsFirst first → (ls : List (List ℕ)) (t : Reader) (q : Batch) → Runs Goes first ls t → ends t ≡ Some q → SpellsBatch first.machine ls q
sound first f ls t q run e = subst (SpellsBatch first.machine ls) (same_Some _ _ e) (batch_read first t ls f (behind_run first t ls run))

complete : (first : Reader) → IsFirst first → (ls : List (List ℕ)) (q : Batch) → SpellsBatch first.machine ls q → (t : Reader) × Runs Goes first ls t × (ends t ≡ Some q)
complete first f ls q s =
    let size = script_size q.machine q.commands in
    let frame : frame_size q.machine ≡ frame_size first.machine = ap frame_size s.machine in
    let commands : commands_size 1 q.commands ≡ commands_size 1 (filled ls) = ap (commands_size 1) s.commands in
    let each : are_commands 1 (filled ls) ≡ true = subst (λ cs. are_commands 1 cs ≡ true) s.commands s.each in
    let room : commands_size 1 (filled ls) ≤ first.room = omega (arith, size, frame, commands, s.within, f.room) in
    let none : 1 ≡ length first.commands + 1 = ap (λ (cs : List (List ℕ)). length cs + 1) (sym f.commands) in
    let run = runs first ls (omega (arith, f.lines, s.few)) (subst (λ k. are_commands k (filled ls) ≡ true) none each) (subst (λ k. commands_size k (filled ls) ≤ first.room) none room) in
    let h = behind_run first run.0 ls run.1 in
    let after : run.0.commands ≡ filled ls = h.commands ∙ ap (λ cs. cs ++ filled ls) f.commands in
    (run.0, run.1, same_batch run.0.machine q.machine run.0.commands q.commands (h.machine ∙ sym s.machine) (after ∙ sym s.commands))

pub reads_batches : (first : Reader) → batches_stepping.is_first first → Reads (GoesBy (from batches_stepping first)) first batches_stepping.ends (batches_stepping.Spells first)
reads_batches first f = record {
  sound = sound first f;
  complete = complete first f;
  goes_on = λ ls t run. record {
    more = [];
    are_lines = tt;
    text = record { machine = t.machine; commands = t.commands };
    spelled = subst (λ ks. SpellsBatch first.machine ks (record { machine = t.machine; commands = t.commands })) (sym (append-nil ls)) (batch_read first t ls f (behind_run first t ls run));
    unskipped = refl;
  };
}
