-- What the lines of a block play, and the play of a script on one thread: our profile.
use Rattle.std.specs.Prelude.{◌≡◌, ℕ, ◌+◌, ◌≤◌, ◌==◌, nat_le, min, true, filter, map, ◌⊎◌, List, [], ◌∷◌, ◌++◌, length, take, Option, Some, None, if◌then◌else◌}
use Rattle.drmaa_types.specs.Moments.{greatest}
use Rattle.drmaa_types.specs.declared.identifiers.CallerId.{CallerId}
use Rattle.drmaa_types.specs.declared.moments.Timeout.{Timeout}
use Rattle.drmaa_types.specs.declared.moments.Timeout.TheVariants.{Seconds, Infinite}
use Rattle.drmaa_model.specs.declared.calls.Call.{Call}
use Rattle.drmaa_model.specs.declared.entries.Entry.{Entry}
use Rattle.drmaa_model.specs.declared.replies.Reply.{Reply}
use Rattle.drmaa_model.specs.Effects.{StepAnswer, gives, nothing, not_yet}
use Rattle.drmaa_model.specs.RecordedCalls.{recorded}
use Rattle.drmaa_model.specs.Size.{size}
use Rattle.drmaa_model.specs.Steps.{answer}
use Rattle.drmaa_model.specs.World.{World, opening_world}
use Rattle.text_codec.specs.Formats.{choose}
use Rattle.script_lines.specs.declared.lines.Line.{Line}
use Rattle.script_lines.specs.declared.lines.Line.TheVariants as line
use Rattle.script_text.specs.declared.scripts.Script.{Script}
use Rattle.script_text.specs.Follows.{lines_of, is_wait}
use Rattle.script_asks.specs.declared.given.Given.{Given}
use Rattle.script_asks.specs.Asks.{asks}
use Rattle.script_asks.specs.Replies.{names_after, last_attempt}

-- the entries of one caller, in order
abbrev pub calls_of : ℕ → List Entry → List Entry
calls_of caller entries = filter (λ e. e.caller.0 == caller) entries

-- no job was launched, or no line is a report
abbrev pub no_attempt : ℕ → ℕ
no_attempt job = 0

-- The entry is what a line asks. A wait may have begun at any moment from that of the entry before it to its own.
pub record IsAsked (s : Script) (names : List (List ℕ × Given)) (before : ℕ) (l : Line) (e : Entry) : Type 0 where
  pub begun : ℕ
  pub call : Call
  pub asked : asks s names no_attempt begun l ≡ Some call
  pub same : e.call ≡ recorded call
  pub in_time : is_wait l ≡ true → (before ≤ begun) × (begun ≤ e.at)

-- The entries are what these lines ask, in order: each line asks nothing, or its call is that of the next entry, whose reply
-- gives its name a number. All entries are used up.
abbrev pub Plays : Script → List (List ℕ × Given) → ℕ → List Line → List Entry → Type 0
Plays s names before [] es = es ≡ []
Plays s names before (l ∷ ls) es =
    ((asks s names no_attempt 0 l ≡ None) × Plays s names before ls es)
    ⊎ ((e : Entry) × (rest : List Entry) × (es ≡ e ∷ rest) × IsAsked s names before l e × Plays s (names_after l e.reply names) e.at ls rest)

-- the entries are what the first lines ask
abbrev pub PlaysPart : Script → List (List ℕ × Given) → ℕ → List Line → List Entry → Type 0
PlaysPart s names before ls es = (n : ℕ) × Plays s names before (take n ls) es

-- the names after what lines asked, by these entries
abbrev pub names_told : Line → List Entry → List (List ℕ × Given) → List (List ℕ × Given)
names_told l [] names = names
names_told l (e ∷ es) names = names_after l e.reply names

abbrev pub behind_first : List Entry → List Entry
behind_first [] = []
behind_first (e ∷ es) = es

abbrev pub names_by : Script → List (List ℕ × Given) → List Line → List Entry → List (List ℕ × Given)
names_by s names [] es = names
names_by s names (l ∷ ls) es =
    choose (asks s names no_attempt 0 l) (λ c. names_by s (names_told l es names) ls (behind_first es)) (names_by s names ls es)

-- the names that the setup block binds, by these entries
abbrev pub setup_names : Script → List Entry → List (List ℕ × Given)
setup_names s es = names_by s [] (lines_of s.setup) es

-- how many seconds a wait lasts in a play on one thread: one without end is as long as the greatest moment, so that its second
-- look is at that moment
abbrev pub seconds_of : Timeout → ℕ
seconds_of (Seconds seconds) = seconds
seconds_of Infinite = greatest

-- Who plays a line in a play on one thread, or the moment that it sets; a wait has its timeout in seconds.
pub data Performer : Type 0 where
  sets : (moment : ℕ) → Performer
  waits : (timeout : ℕ) → Performer
  a_client : Performer
  the_launcher : Performer
  the_reaper : Performer

abbrev pub performer_of : Line → Performer
performer_of (line.CreateJobs name session) = a_client
performer_of (line.CreateReservations name session) = a_client
performer_of (line.OpenJobs name session) = a_client
performer_of (line.OpenReservations name session) = a_client
performer_of (line.DestroyJobs session) = a_client
performer_of (line.DestroyReservations session) = a_client
performer_of line.NamesJobs = a_client
performer_of line.NamesReservations = a_client
performer_of (line.Monitor name) = a_client
performer_of (line.Close session) = a_client
performer_of (line.Run name session template reserved) = a_client
performer_of (line.Bulk name session template begin end step bound reserved) = a_client
performer_of (line.Jobs session filter) = a_client
performer_of (line.Array session array) = a_client
performer_of (line.Suspend session job) = a_client
performer_of (line.Resume session job) = a_client
performer_of (line.Hold session job) = a_client
performer_of (line.Release session job) = a_client
performer_of (line.Terminate session job) = a_client
performer_of (line.SuspendArray session array) = a_client
performer_of (line.ResumeArray session array) = a_client
performer_of (line.HoldArray session array) = a_client
performer_of (line.ReleaseArray session array) = a_client
performer_of (line.TerminateArray session array) = a_client
performer_of (line.Reap session job) = a_client
performer_of (line.ReapArray session array) = a_client
performer_of (line.State session job) = a_client
performer_of (line.Info session job) = a_client
performer_of (line.WaitStarted session timeout jobs) = waits (seconds_of timeout)
performer_of (line.WaitTerminated session timeout jobs) = waits (seconds_of timeout)
performer_of (line.Reserve name session template) = a_client
performer_of (line.Reservation session reservation) = a_client
performer_of (line.Reservations session) = a_client
performer_of (line.Cancel session reservation) = a_client
performer_of (line.AllJobs session filter) = a_client
performer_of (line.AllReservations session) = a_client
performer_of (line.Queues session) = a_client
performer_of (line.Machines session) = a_client
performer_of line.Register = a_client
performer_of (line.At moment) = sets moment.moment
performer_of line.Launch = the_launcher
performer_of (line.Started job) = the_launcher
performer_of (line.StartFailed job) = the_launcher
performer_of (line.Exit job code) = the_reaper
performer_of (line.ExitSignal job signal) = the_reaper
performer_of (line.ExitUnknown job) = the_reaper
performer_of line.Signal = the_reaper
performer_of (line.SignalDone job kind) = the_reaper
performer_of (line.SignalFailed job kind) = the_reaper

-- the client whose block is played, and the launcher and the reaper behind all clients
pub record Crew : Type 0 where
  pub client : CallerId
  pub launcher : CallerId
  pub reaper : CallerId

abbrev pub crew_of : ℕ → ℕ → Crew
crew_of clients number = record {
  client = record { 0 = number };
  launcher = record { 0 = clients + 1 };
  reaper = record { 0 = clients + 2 };
}

-- the world and the moment that the play has come to, the numbers that names were given, the entries that were made, and
-- the size that stopped it
pub record Playing : Type 0 where
  pub world : World
  pub moment : ℕ
  pub names : List (List ℕ × Given)
  pub entries : List Entry
  pub full : Option ℕ

-- a step that would pass the greatest journal size is not made, and stops the play
abbrev pub entered : Playing → CallerId → Line → Call → Reply → World → Playing
entered p caller l c r next =
    if nat_le (size next) p.world.config.journal
    then record p {
      world = next;
      names = names_after l r p.names;
      entries = p.entries ++ record { caller = caller; at = p.moment; call = recorded c; reply = r } ∷ [];
    }
    else record p { full = Some (size next) }

-- the play after an answer; one that makes no entry leaves it as it was, or goes on to a second look
abbrev pub after_answer : Playing → CallerId → Line → Call → StepAnswer → Playing → Playing
after_answer p caller l c (gives r next) second = entered p caller l c r next
after_answer p caller l c nothing second = p
after_answer p caller l c not_yet second = second

abbrev pub after_look : Playing → CallerId → Line → Call → Playing → Playing
after_look p caller l c second = after_answer p caller l c (answer p.world p.moment (recorded c)) second

-- the moment of a wait's second look becomes the play's
abbrev pub come_later : Playing → ℕ → Playing
come_later p timeout = record p { moment = min (p.moment + timeout) greatest }

abbrev pub second_look : Playing → CallerId → Line → Call → Playing
second_look q caller l c = after_look q caller l c q

-- what a line asks at the play's moment
abbrev pub asks_now : Script → Playing → Line → Option Call
asks_now s p l = asks s p.names (λ job. last_attempt job (map (λ e. e.reply) p.entries)) p.moment l

abbrev pub play_by : Script → Crew → Playing → Line → Performer → Playing
play_by s crew p l (sets m) = record p { moment = m }
play_by s crew p l (waits timeout) = choose (asks_now s p l) (λ c. after_look p crew.client l c (second_look (come_later p timeout) crew.client l c)) p
play_by s crew p l a_client = choose (asks_now s p l) (λ c. after_look p crew.client l c p) p
play_by s crew p l the_launcher = choose (asks_now s p l) (λ c. after_look p crew.launcher l c p) p
play_by s crew p l the_reaper = choose (asks_now s p l) (λ c. after_look p crew.reaper l c p) p

-- a play that was stopped goes on no more
abbrev pub play_line : Script → Crew → Playing → Line → Playing
play_line s crew p l = choose p.full (λ size. p) (play_by s crew p l (performer_of l))

abbrev pub play_lines : Script → Crew → Playing → List Line → Playing
play_lines s crew p [] = p
play_lines s crew p (l ∷ ls) = play_lines s crew (play_line s crew p l) ls

-- the clients' blocks from this number on, each with the names of the setup block
abbrev pub play_clients : Script → List (List ℕ × Given) → ℕ → Playing → List (List Line) → Playing
play_clients s names number p [] = p
play_clients s names number p (b ∷ bs) = play_clients s names (number + 1) (play_lines s (crew_of (length s.clients) number) (record p { names = names }) b) bs

-- a play that has not begun, in this world, at its moment
abbrev pub opening_in : World → Playing
opening_in w = record { world = w; moment = w.plan.moment; names = []; entries = []; full = None }

-- the setup block's play from a world, by caller 0
abbrev pub after_setup_from : World → Script → Playing
after_setup_from w s = play_lines s (crew_of (length s.clients) 0) (opening_in w) (lines_of s.setup)

-- The play of a script from a world: setup block and clients in their order; the entries that it adds, and the size that stopped it.
abbrev pub serial_play_from : World → Script → Playing
serial_play_from w s = play_clients s (after_setup_from w s).names 1 (after_setup_from w s) s.clients

-- the same from the opening world of the script's machine
abbrev pub opening : Script → Playing
opening s = opening_in (opening_world s.config)

abbrev pub after_setup : Script → Playing
after_setup s = after_setup_from (opening_world s.config) s

abbrev pub serial_play : Script → Playing
serial_play s = serial_play_from (opening_world s.config) s
