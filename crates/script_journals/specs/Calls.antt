-- Which calls may stand in a journal, and which are those of the launcher and of the reaper: our profile.
use Rattle.std.specs.Prelude.{◌≡◌, ℕ, ◌⊎◌, Bool, true, false, List, Some}
use Rattle.std.specs.List.{slice_get}
use Rattle.drmaa_model.specs.declared.calls.Call.{Call}
use Rattle.drmaa_model.specs.declared.calls.Call.TheVariants as call
use Rattle.drmaa_model.specs.declared.entries.Entry.{Entry}
use Rattle.drmaa_model.specs.RecordedCalls.{recorded}
use Rattle.drmaa_model.specs.ReplyKinds.{ReplyKind, a_callback, a_reached_job, kind_of_call}
use Rattle.journal_forms.specs.Calls.{has_others}
use Rattle.script_lines.specs.declared.lines.Line.{Line}
use Rattle.script_text.specs.declared.scripts.Script.{Script}
use Rattle.script_text.specs.Follows.{lines_of}

-- The entry's call is one that a journal may have: it is its own recorded call, and no template has queueName or a limit under
-- `other`.
pub record CallMayStand (e : Entry) : Type 0 where
  pub call : recorded e.call ≡ e.call
  pub others : has_others e.call ≡ true

-- a call of the launcher or of the reaper
abbrev pub is_attendants : Call → Bool
is_attendants call.TakeLaunch = true
is_attendants (call.Started job attempt) = true
is_attendants (call.StartFailed job attempt) = true
is_attendants (call.Exited job attempt exit) = true
is_attendants (call.ExitUnknown job attempt) = true
is_attendants call.TakeSignal = true
is_attendants (call.SignalDone job attempt kind) = true
is_attendants (call.SignalFailed job attempt kind) = true
is_attendants _ = false

-- what a call is answered that registers a callback
abbrev pub is_callback : ReplyKind → Bool
is_callback a_callback = true
is_callback _ = false

-- what a call is answered that waits
abbrev pub is_reached : ReplyKind → Bool
is_reached a_reached_job = true
is_reached _ = false

-- a call that registers a callback
abbrev pub is_registers : Call → Bool
is_registers c = is_callback (kind_of_call c)

-- a call that waits for jobs
abbrev pub is_waiting : Call → Bool
is_waiting c = is_reached (kind_of_call c)

-- an entry of neither
abbrev pub IsClientsEntry : Entry → Type 0
IsClientsEntry e = is_attendants e.call ≡ false

-- the lines are those of the setup block, or of one of the clients' blocks
abbrev pub IsBlockOf : Script → List Line → Type 0
IsBlockOf s block = (block ≡ lines_of s.setup) ⊎ ((n : ℕ) × (slice_get s.clients n ≡ Some block))

-- an entry that registers no callback
abbrev pub IsNoRegister : Entry → Type 0
IsNoRegister e = is_registers e.call ≡ false
