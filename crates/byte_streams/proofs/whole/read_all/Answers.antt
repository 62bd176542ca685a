use Rattle.std.proofs.Common.{arith}
use Rattle.byte_streams.proofs.Known.{read-over}
use Rattle.byte_streams.proofs.whole.read_all.Goals as goal

pub returns-then-count-room-clause-read : goal.returns-then-count-room-clause-read
returns-then-count-room-clause-read g c =
    let left = g.S.Source.left in
    read-over (left c.args.source.now) (left c.loop-bytes.source) (left c.read.new.self) c.loop-bytes.bytes.items c.extend_from_slice.new.self.items
    c.read.new.into c.args.limit c.in_ok-count.count c.len.result (omega (arith, c.loop-bytes.bytes.ok.0)) (omega arith) c.if-count-room.true
    c.in_ok-count.ensures.fits c.loop-bytes.invariant.front c.in_ok-count.ensures.taken c.in_ok-extend_from_slice.ensures.items
