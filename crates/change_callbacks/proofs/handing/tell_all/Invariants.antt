use Rattle.std.proofs.Common.{◌≡◌, ℕ, ◌*◌, ◌<◌, ◌≤◌, length, take, sum_by, slice_index_or}
use Rattle.change_callbacks.specs.Hearing.{HasHeard}
use Rattle.change_callbacks.specs.Ears.{notifications, due, place_at}
use Rattle.change_callbacks.proofs.handing.tell_all.Given as goal

abbrev pub invariant-loop-i : goal.invariant-loop-i
invariant-loop-i g l =
    ((k : ℕ) (d : _) → l.i ≤ k → slice_index_or l.callbacks k d ≡ slice_index_or l.fn.callbacks k d)
    × ((k : ℕ) (d : _) → k < l.i → HasHeard g.B.Callback.counted g.B.Callback.told (slice_index_or l.fn.callbacks k d) (slice_index_or l.callbacks k d)
    (notifications (due l.from l.changes (place_at l.places k))))
    × (l.calls ≡ sum_by (λ place. length (due l.from l.changes place)) (take l.i l.places))
    × (l.calls ≤ 64 * l.i)
