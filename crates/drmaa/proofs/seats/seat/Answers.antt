use Rattle.std.proofs.Common.{◌∷◌, [], None, length, length-append, ap, ◌∙◌, arith}
use Rattle.call_history.specs.Clients.{retired_of}
use Rattle.drmaa.proofs.seats.seat.Goals as goal

pub returns-clause-seated : goal.returns-clause-seated
returns-clause-seated g c =
    let o = c.open_client.ensures in
    let next = c.requires.next in
    let longer = ap length o.retired in
    let size = length-append (retired_of c.args.opener.now) (None ∷ []) in record {
      opener = o.opener;
      retired = o.retired;
      count = omega arith;
      opener_seen = o.seen;
      free = o.client;
      number_is = o.number ∙ next;
      seen = o.begins;
      mine = o.mine;
      own = o.own;
    }
