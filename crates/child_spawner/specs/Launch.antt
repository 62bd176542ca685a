-- Real processes: how one is started, sent a signal, and seen to end. Our profile.
use Rattle.std.specs.Prelude.{◌≡◌, ℕ, ◌/◌, ◌%◌, ◌==◌, false, List, [], ◌∷◌, ◌++◌, codes, Option, None, if◌then◌else◌}
use Rattle.std.specs.Fmt.{decimal}
use Rattle.std.specs.Process.{status_bits, command_var, command_dir, clears_env}
use Rattle.std.specs.declared.process.command.Command.{Command}
use Rattle.std.specs.Global.{Global}
use Rattle.std.specs.declared.process.status.ExitStatus.{ExitStatus}
use Rattle.drmaa_types.specs.declared.states.Exit.{Exit}
use Rattle.drmaa_types.specs.declared.states.Exit.TheVariants.{Code, Signal}
use Rattle.drmaa_types.specs.declared.states.SignalKind.{SignalKind}
use Rattle.drmaa_types.specs.declared.states.SignalKind.TheVariants.{Stop, Cont, Kill}

-- the file into which a started process writes its number
abbrev pub number_file : List ℕ → ℕ → ℕ → List ℕ
number_file folder job attempt = folder ++ (codes "/drmaa-pid-" ++ (decimal job ++ (codes "-" ++ decimal attempt)))

-- what it writes there: its number, and a line feed
abbrev pub number_line : ℕ → List ℕ
number_line number = decimal number ++ codes "\n"

-- the program that starts processes and sends signals
abbrev pub shell : List ℕ
shell = codes "/bin/sh"

-- What `sh` does to start a process: it writes its number, enters the directory, sets the three streams, exports the
-- environment's pairs, and becomes the command.
abbrev pub launch_text : List ℕ
launch_text =
    codes "echo $$ > \"$1\" || exit 127\n"
    ++ codes "shift\n"
    ++ codes "if [ -n \"$1\" ]; then cd \"$1\" || exit 127; fi\n"
    ++ codes "exec < \"${2:-/dev/null}\" > \"${3:-/dev/null}\"\n"
    ++ codes "if [ \"$5\" = join ]; then exec 2>&1; else exec 2> \"${4:-/dev/null}\"; fi\n"
    ++ codes "shift 5\n"
    ++ codes "while [ \"$1\" -gt 0 ]; do export \"$2\"; eval \"shift 2; set -- $(($1 - 1)) \\\"\\$@\\\"\"; done\n"
    ++ codes "shift\n"
    ++ codes "exec \"$@\"\n"

-- the arguments of `sh` that start a process: its text, the name `drmaa`, the file for the number, and the launch words
abbrev pub launch_args : List ℕ → List (List ℕ) → List (List ℕ)
launch_args file words = codes "-c" ∷ launch_text ∷ codes "drmaa" ∷ file ∷ words

-- a signal's name
abbrev pub signal_name : SignalKind → List ℕ
signal_name Stop = codes "STOP"
signal_name Cont = codes "CONT"
signal_name Kill = codes "KILL"

-- the arguments of `sh` that send the process of this number a signal
abbrev pub kill_args : SignalKind → ℕ → List (List ℕ)
kill_args kind number = codes "-c" ∷ (codes "kill -" ++ signal_name kind ++ codes " " ++ decimal number) ∷ []

-- How a process ended: by its code, or by the signal that is told, 0 where none is.
abbrev pub exit_of_status : ExitStatus → Exit
exit_of_status s =
    if status_bits s % 128 == 0 then Code (status_bits s / 256 % 256) else Signal (if status_bits s % 128 == 127 then 0 else status_bits s % 128)

-- a command that takes over the environment and the directory as they are
pub record IsPlain (command : Command Global) : Type 0 where
  pub inherits : clears_env command ≡ false
  pub vars : (name : List ℕ) → command_var command name ≡ None
  pub dir : command_dir command ≡ None

-- what a `LocalSpawner` is seen as: its host and folder, and its count of faults
pub record Edge (H : Type 0) : Type 0 where
  pub host : H
  pub folder : List ℕ
  pub faults : ℕ

-- what a `LocalChild` is seen as: its host, the file for its process's number and that number, how it was seen to end,
-- the status that a wait has told, how many waits failed, and its count of faults
pub record EdgeChild (H : Type 0) : Type 0 where
  pub host : H
  pub file : List ℕ
  pub number : ℕ
  pub status : Option ExitStatus
  pub failed_waits : ℕ
  pub ended : Option Exit
  pub faults : ℕ
