use Rattle.std.proofs.Common.{arith}
use Rattle.text_codec.proofs.Readers.{brace_put}
use Rattle.text_codec.proofs.printing.push_braces.Goals as goal

pub returns : goal.returns
returns c = λ front spelled e s.
    brace_put c.args.out.now.items c.put_over.new.out.items c.extend_from_slice-2.new.self.items front spelled c.args.start c.extend_from_slice-2.result c.put_over.ensures c.extend_from_slice-2.ensures.items (omega (arith, c.if-start-len.false, c.len.ensures, c.args.out.now.ok)) e s
