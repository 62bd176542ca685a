-- What a reply registers.
use Rattle.std.proofs.Common.{◌≡◌, ℕ, false, Some, None, refl, ap}
use Rattle.drmaa_model.specs.declared.replies.Reply.{Reply}
use Rattle.drmaa_model.specs.declared.replies.Reply.TheVariants as reply
use Rattle.drmaa_model.specs.Heard.{registers}
use Rattle.script_play.specs.Callbacks.{number_in}

pub number-none : (r : Reply) → number_in r ≡ None → (n : ℕ) → registers n r ≡ false
number-none (reply.Callback number) is n = absurd (cc)
number-none reply.Unit is n = refl
number-none (reply.Session session) is n = refl
number-none (reply.Names names) is n = refl
number-none (reply.Job job) is n = refl
number-none (reply.Array array first count) is n = refl
number-none (reply.Jobs jobs) is n = refl
number-none (reply.State state) is n = refl
number-none (reply.Info info) is n = refl
number-none (reply.Reached job) is n = refl
number-none (reply.Reserved reserved) is n = refl
number-none (reply.Reservation info) is n = refl
number-none (reply.Reservations numbers) is n = refl
number-none (reply.Infos infos) is n = refl
number-none (reply.ReservationInfos infos) is n = refl
number-none (reply.Machine info) is n = refl
number-none (reply.Launch handed) is n = refl
number-none (reply.Signal sent) is n = refl
number-none (reply.Refused why) is n = refl

pub number-some : (r : Reply) (m : ℕ) → number_in r ≡ Some m → r ≡ reply.Callback m
number-some (reply.Callback number) m is = (let same : number ≡ m = cc in ap reply.Callback same)
number-some reply.Unit m is = absurd (cc)
number-some (reply.Session session) m is = absurd (cc)
number-some (reply.Names names) m is = absurd (cc)
number-some (reply.Job job) m is = absurd (cc)
number-some (reply.Array array first count) m is = absurd (cc)
number-some (reply.Jobs jobs) m is = absurd (cc)
number-some (reply.State state) m is = absurd (cc)
number-some (reply.Info info) m is = absurd (cc)
number-some (reply.Reached job) m is = absurd (cc)
number-some (reply.Reserved reserved) m is = absurd (cc)
number-some (reply.Reservation info) m is = absurd (cc)
number-some (reply.Reservations numbers) m is = absurd (cc)
number-some (reply.Infos infos) m is = absurd (cc)
number-some (reply.ReservationInfos infos) m is = absurd (cc)
number-some (reply.Machine info) m is = absurd (cc)
number-some (reply.Launch handed) m is = absurd (cc)
number-some (reply.Signal sent) m is = absurd (cc)
number-some (reply.Refused why) m is = absurd (cc)
