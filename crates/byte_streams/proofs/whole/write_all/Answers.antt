use Rattle.std.proofs.Common.{arith, subst, length, take, drop, ◌-◌, length-take, length-drop}
use Rattle.std.specs.Io.KnownBytes.{Appends}
use Rattle.byte_streams.proofs.Known.{appends-trans, appends-front, take-part, on-err}
use Rattle.byte_streams.proofs.whole.write_all.Goals as goal

pub returns-in_err-done-clause-err : goal.returns-in_err-done-clause-err
returns-in_err-done-clause-err g c =
    on-err c.from_residual.result _ (appends-front _ _ _ c.args.bytes.now c.loop-done.done c.loop-done.invariant.front c.in_err-done.ensures.kept)

-- what was written before, and now, is a longer front
pub loop-done-preserved : goal.loop-done-preserved
loop-done-preserved g c =
    let written = g.W.Sink.written in
    let bytes = c.args.bytes.now in
    let done = c.loop-done.done in
    let count = c.in_ok-done.field-0 in
    let both = appends-trans (written c.args.sink.now) (written c.loop-done.sink) (written c.write.new.self) (take done bytes)
    (take count (take (length bytes - done) (drop done bytes))) c.loop-done.invariant.front c.in_ok-done.ensures.added in
    record {
      within = omega (arith, c.in_ok-done.ensures.fits, length-take (length bytes - done) (drop done bytes), length-drop done bytes);
      front = subst (λ l. Appends (written c.args.sink.now) (written c.write.new.self) l) (take-part done count bytes) both;
      counted = omega (arith, c.in_ok-done.ensures.counted);
    }
