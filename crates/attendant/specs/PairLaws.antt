-- How a desk goes on at which nothing happens.
use Rattle.std.proofs.Common.{[], refl, sym, append-nil, arith}
use Rattle.turn_lock.specs.Tokens.{IsFree}
use Rattle.call_history.specs.Clients.{mine_of}
use Rattle.call_history.specs.ClientLaws.{begins-itself}
use Rattle.call_history.specs.ClockLaws.{gives-none}
use Rattle.attendant.specs.Posts.{Post, IsStillAt}

-- nothing happened at a desk
pub post-itself : (p : Post) → IsFree p.shared p.client → IsStillAt p p
post-itself p free = record {
  shared_is = refl;
  client = free;
  number = refl;
  begins = begins-itself _;
  own = λ o. o;
  legal = λ l. l;
  least = (let l = p.clock.least in omega arith);
  readings = [];
  gave = gives-none p.clock.given;
  added = [];
  mine = sym (append-nil (mine_of p.client));
  timed = tt;
}
