-- The line that registers a callback, and how it alone is spelled.
use Rattle.std.proofs.Common.{◌≡◌, ℕ, Bool, true, false, List, ◌∷◌, drop, ◌+◌, Some, refl, ap, ◌∙◌, codes, is_some, None, Option}
use Rattle.std.specs.Str.{bytes_eq}
use Rattle.std.specs.Cmp.Lexicographic.{bytes_decides}
use Rattle.script_lines.specs.declared.lines.Line.{Line}
use Rattle.script_lines.specs.declared.lines.Line.TheVariants as line
use Rattle.script_lines.specs.LineLaws.{line_found, line_again}
use Rattle.script_lines.specs.Lines.{read_line, line_form}
use Rattle.script_text.specs.BlockTextLaws.{line_at, spelled_at}
use Rattle.script_text.specs.BlockTexts.{said, AreLines}
use Rattle.script_text.specs.Follows.{is_register}

-- a line that registers a callback is this one
pub register-line : (l : Line) → is_register l ≡ true → l ≡ line.Register
register-line (line.CreateJobs name session) is = absurd (cc)
register-line (line.CreateReservations name session) is = absurd (cc)
register-line (line.OpenJobs name session) is = absurd (cc)
register-line (line.OpenReservations name session) is = absurd (cc)
register-line (line.DestroyJobs session) is = absurd (cc)
register-line (line.DestroyReservations session) is = absurd (cc)
register-line line.NamesJobs is = absurd (cc)
register-line line.NamesReservations is = absurd (cc)
register-line (line.Monitor name) is = absurd (cc)
register-line (line.Close session) is = absurd (cc)
register-line (line.Run name session template reserved) is = absurd (cc)
register-line (line.Bulk name session template begin end step bound reserved) is = absurd (cc)
register-line (line.Jobs session filter) is = absurd (cc)
register-line (line.Array session array) is = absurd (cc)
register-line (line.Suspend session job) is = absurd (cc)
register-line (line.Resume session job) is = absurd (cc)
register-line (line.Hold session job) is = absurd (cc)
register-line (line.Release session job) is = absurd (cc)
register-line (line.Terminate session job) is = absurd (cc)
register-line (line.SuspendArray session array) is = absurd (cc)
register-line (line.ResumeArray session array) is = absurd (cc)
register-line (line.HoldArray session array) is = absurd (cc)
register-line (line.ReleaseArray session array) is = absurd (cc)
register-line (line.TerminateArray session array) is = absurd (cc)
register-line (line.Reap session job) is = absurd (cc)
register-line (line.ReapArray session array) is = absurd (cc)
register-line (line.State session job) is = absurd (cc)
register-line (line.Info session job) is = absurd (cc)
register-line (line.WaitStarted session timeout jobs) is = absurd (cc)
register-line (line.WaitTerminated session timeout jobs) is = absurd (cc)
register-line (line.Reserve name session template) is = absurd (cc)
register-line (line.Reservation session reservation) is = absurd (cc)
register-line (line.Reservations session) is = absurd (cc)
register-line (line.Cancel session reservation) is = absurd (cc)
register-line (line.AllJobs session filter) is = absurd (cc)
register-line (line.AllReservations session) is = absurd (cc)
register-line (line.Queues session) is = absurd (cc)
register-line (line.Machines session) is = absurd (cc)
register-line line.Register is = refl
register-line (line.At moment) is = absurd (cc)
register-line line.Launch is = absurd (cc)
register-line (line.Started job) is = absurd (cc)
register-line (line.StartFailed job) is = absurd (cc)
register-line (line.Exit job code) is = absurd (cc)
register-line (line.ExitSignal job signal) is = absurd (cc)
register-line (line.ExitUnknown job) is = absurd (cc)
register-line line.Signal is = absurd (cc)
register-line (line.SignalDone job kind) is = absurd (cc)
register-line (line.SignalFailed job kind) is = absurd (cc)

alike : (t : List ℕ) (l : Line) (word is : Bool) → read_line t ≡ Some l → bytes_eq t (codes "register") ≡ word → is_register l ≡ is → word ≡ is
alike t l true true e x y = refl
alike t l false false e x y = refl
alike t l true false e x y =
    let same : t ≡ codes "register" = (bytes_decides t (codes "register")).0 x in
    let read : read_line t ≡ Some line.Register = ap read_line same ∙ line_again line.Register tt in
    let is : l ≡ line.Register = cc in
    absurd (let so : is_register l ≡ true = ap is_register is in cc)
alike t l false true e x y =
    let same : t ≡ codes "register" = (line_found t l e).1 ∙ ap (λ m. (line_form m).text) (register-line l y) in
    let so : bytes_eq t (codes "register") ≡ true = (bytes_decides t (codes "register")).1 same in
    absurd (cc)

-- bytes that spell a line are this word exactly where it registers a callback
pub register-spelled : (t : List ℕ) (l : Line) → read_line t ≡ Some l → bytes_eq t (codes "register") ≡ is_register l
register-spelled t l e = alike t l (bytes_eq t (codes "register")) (is_register l) e refl refl

said-some : (o : Option Line) → is_some o ≡ true → (l : Line) × (o ≡ Some l)
said-some None is = absurd (cc)
said-some (Some l) is = (l, refl)

-- so it is with the bytes that are kept at a place, which spell the line there
pub registers-there : (ts : List (List ℕ)) (k : ℕ) (t : List ℕ) → AreLines ts → drop k ts ≡ t ∷ drop (k + 1) ts
    → (line : Line) × (drop k (said ts) ≡ line ∷ drop (k + 1) (said ts)) × (bytes_eq t (codes "register") ≡ is_register line)
registers-there ts k t h e =
    let spelled = said-some (read_line t) (spelled_at ts k t h e) in
    (spelled.0, line_at ts k t spelled.0 h e spelled.1, register-spelled t spelled.0 spelled.1)
