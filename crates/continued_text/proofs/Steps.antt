-- How the reader of a limit goes on from line to line.
use Rattle.std.proofs.Common.{◌≡◌, ℕ, ◌+◌, ◌-◌, ◌<◌, ◌≤◌, List, ◌∷◌, ◌++◌, length, true, false, Option, Some, None, option_map, refl, sym, ap, ◌∙◌, arith, length-append}
use Rattle.text_lines.specs.Lines.{whole_lines}
use Rattle.text_lines.specs.Splitting.{first_line}
use Rattle.text_lines.specs.SplitLaws.{line_found, no_line}
use Rattle.continued_text.specs.Texts.{is_last, end_of}
use Rattle.continued_text.specs.LimitLaws.{end_here, end_later}

-- no line so far ends a journal
pub record Progress (bytes rest : List ℕ) : Type 0 where
  pub within : length rest ≤ length bytes
  pub ends : end_of (whole_lines bytes) ≡ option_map (λ n. length bytes - length rest + n) (end_of (whole_lines rest))

same_map : (k : ℕ) (o : Option ℕ) → k ≡ 0 → o ≡ option_map (λ n. k + n) o
same_map k None h = refl
same_map k (Some n) h = ap (λ m. Some m) (omega (arith, h))

pub begins : (bytes : List ℕ) → Progress bytes bytes
begins bytes = record { within = omega arith; ends = same_map (length bytes - length bytes) (end_of (whole_lines bytes)) (omega arith) }

map_twice : (k j m : ℕ) (o : Option ℕ) → k + j ≡ m → option_map (λ n. k + n) (option_map (λ n. j + n) o) ≡ option_map (λ n. m + n) o
map_twice k j m None h = refl
map_twice k j m (Some n) h = ap (λ x. Some x) (omega (arith, h))

line_len : (rest line behind : List ℕ) → rest ≡ line ++ 10 ∷ behind → length rest ≡ length line + 1 + length behind
line_len rest line behind e = omega (arith, ap length e, length-append line (10 ∷ behind))

pub goes_on : (bytes rest line behind : List ℕ) → Progress bytes rest → ◌≡◌ {A = Option (List ℕ × List ℕ)} (Some (line, behind)) (first_line rest) → is_last line ≡ false → Progress bytes behind
goes_on bytes rest line behind p e h =
    let l = line_found rest line behind (sym e) in
    let len = line_len rest line behind l.bytes in
    let within : length behind ≤ length bytes = omega (arith, len, p.within) in
    let sum : length bytes - length rest + (length line + 1) ≡ length bytes - length behind = omega (arith, len, p.within) in
    record {
      within = within;
      ends = p.ends ∙ ap (λ ls. option_map (λ n. length bytes - length rest + n) (end_of ls)) l.lines
          ∙ ap (option_map (λ n. length bytes - length rest + n)) (end_later line (whole_lines behind) h)
          ∙ map_twice (length bytes - length rest) (length line + 1) (length bytes - length behind) (end_of (whole_lines behind)) sum;
    }

pub found : (bytes rest line behind : List ℕ) → Progress bytes rest → ◌≡◌ {A = Option (List ℕ × List ℕ)} (Some (line, behind)) (first_line rest) → is_last line ≡ true
    → (length behind ≤ length bytes) × (Some (length bytes - length behind) ≡ end_of (whole_lines bytes))
found bytes rest line behind p e h =
    let l = line_found rest line behind (sym e) in
    let len = line_len rest line behind l.bytes in
    let within : length behind ≤ length bytes = omega (arith, len, p.within) in
    let sum : length bytes - length behind ≡ length bytes - length rest + (length line + 1) = omega (arith, len, p.within) in (
      within,
      sym (p.ends ∙ ap (λ ls. option_map (λ n. length bytes - length rest + n) (end_of ls)) l.lines
          ∙ ap (option_map (λ n. length bytes - length rest + n)) (end_here line (whole_lines behind) h) ∙ ap (λ m. Some m) (sym sum)),
    )

pub none_found : (bytes rest : List ℕ) → Progress bytes rest → ◌≡◌ {A = Option (List ℕ × List ℕ)} None (first_line rest) → ◌≡◌ {A = Option ℕ} None (end_of (whole_lines bytes))
none_found bytes rest p e = sym (p.ends ∙ ap (λ ls. option_map (λ n. length bytes - length rest + n) (end_of ls)) (no_line rest (sym e)))

pub smaller : (rest line behind : List ℕ) → ◌≡◌ {A = Option (List ℕ × List ℕ)} (Some (line, behind)) (first_line rest) → length behind < length rest
smaller rest line behind e = let len = line_len rest line behind (line_found rest line behind (sym e)).bytes in omega (arith, len)
