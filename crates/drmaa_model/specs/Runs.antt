-- The launches that a history hands out: our profile.
use Rattle.std.specs.Prelude.{ℕ, Bool, false, ◌&&◌, ◌==◌, List}
use Rattle.std.specs.List.{list_any}
use Rattle.drmaa_model.specs.declared.entries.Entry.{Entry}
use Rattle.drmaa_model.specs.declared.replies.Reply.{Reply}
use Rattle.drmaa_model.specs.declared.replies.Reply.TheVariants as reply

-- the reply hands out this launch of this job
abbrev pub hands_out : ℕ → ℕ → Reply → Bool
hands_out job attempt (reply.Launch launch) = (launch.job.0 == job) && (launch.attempt == attempt)
hands_out job attempt _ = false

-- the job was handed out as its launch of this number
abbrev pub is_launched : List Entry → ℕ → ℕ → Bool
is_launched history job attempt = list_any (λ (entry : Entry). hands_out job attempt entry.reply) history
