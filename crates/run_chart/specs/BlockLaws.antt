-- The laws of reservations that are cut by a table of ends.
use Rattle.std.proofs.Common.{◌≡◌, ℕ, max, map, List, [], ◌∷◌, Option, refl, ap, ◌∙◌}
use Rattle.drmaa_model.specs.declared.entries.Entry.{Entry}
use Rattle.drmaa_types.specs.declared.infos.Reserved.{Reserved}
use Rattle.run_chart.specs.Blocks.{end_from, end_of, ended_at, ended_in, Shows, cut, cut_in}

-- the table cuts them where the entries do
pub cut_by_table : (ends : List (ℕ × ℕ)) (entries : List Entry) → Shows ends entries → (rs : List Reserved)
    → map (cut_in ends) rs ≡ map (λ (r : Reserved). cut r (end_of entries r.reservation.0)) rs
cut_by_table ends entries shows [] = refl
cut_by_table ends entries shows (r ∷ rs) =
    ap (λ (ended : Option ℕ). cut r ended ∷ map (cut_in ends) rs) (shows r.reservation.0)
    ∙ ap (λ (cuts : List Reserved). cut r (end_of entries r.reservation.0) ∷ cuts) (cut_by_table ends entries shows rs)

-- ---- one entry more

pub one_noted : (n now moment : ℕ) (before after ended : Option ℕ) (entry : Entry) (rest : List Entry)
    → moment ≡ max now entry.at → ended ≡ ended_in entry.call entry.reply → after ≡ ended_at n moment ended before
    → end_from n moment after rest ≡ end_from n now before (entry ∷ rest)
one_noted n now moment before after ended entry rest comes is noted =
    ap (λ (a : Option ℕ). end_from n moment a rest) (noted ∙ ap (λ (e : Option ℕ). ended_at n moment e before) is)
    ∙ ap (λ (m : ℕ). end_from n m (ended_at n m (ended_in entry.call entry.reply) before) rest) comes
