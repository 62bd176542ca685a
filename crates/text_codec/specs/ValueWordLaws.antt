-- The laws of words: a line for each, and each value that has a word stands in its table.
use Rattle.std.proofs.Common.{◌≡◌, ◌≢◌, ℕ, Bool, true, List, [], ◌∷◌, Option, Some, None, refl, sym, ap, ◌∙◌}
use Rattle.std.specs.Prelude.{IfSome}
use Rattle.std.specs.List.{list_all}
use Rattle.std.specs.Str.{bytes_eq}
use Rattle.std.proofs.lemmas.Option.{none-some, same_Some}
use Rattle.text_codec.specs.StepLaws.{both, by_test, true_false}
use Rattle.drmaa_types.specs.declared.states.JobState.{JobState}
use Rattle.drmaa_types.specs.declared.states.JobState.TheVariants as state
use Rattle.drmaa_types.specs.declared.states.SignalKind.{SignalKind}
use Rattle.drmaa_types.specs.declared.states.SignalKind.TheVariants as kind
use Rattle.drmaa_types.specs.declared.states.Note.{Note}
use Rattle.drmaa_types.specs.declared.states.Note.TheVariants as note
use Rattle.drmaa_types.specs.declared.refusals.Which.{Which}
use Rattle.drmaa_types.specs.declared.refusals.Which.TheVariants as which
use Rattle.drmaa_types.specs.declared.refusals.Limit.{Limit}
use Rattle.drmaa_types.specs.declared.refusals.Limit.TheVariants as limit
use Rattle.drmaa_types.specs.declared.refusals.Attribute.{Attribute}
use Rattle.drmaa_types.specs.declared.refusals.Attribute.TheVariants as attribute
use Rattle.text_codec.specs.declared.states.TheConstants.{STATES, KINDS, NOTES}
use Rattle.text_codec.specs.declared.arguments.TheConstants.{ARGUMENTS, LIMITS}
use Rattle.text_codec.specs.declared.attributes.TheConstants.{ATTRIBUTES}
use Rattle.text_codec.specs.Formats.{IsFormat, first_spelled, valid_or}
use Rattle.text_codec.specs.BaseLaws.{one_of_laws}
use Rattle.drmaa_types.specs.Said.{state_name, attribute_name}
use Rattle.text_codec.specs.ValueWords.{state_form, kind_text, kind_form, note_text, note_form, which_text, which_form, limit_text, is_told, limit_form, attribute_form, make_note, note_part}

pub state_laws : IsFormat state_form
unfolding state_form
state_laws = one_of_laws state_name STATES refl

pub state_stands : (x : JobState) → first_spelled state_name STATES (state_name x) ≡ Some x
state_stands state.Undetermined = refl
state_stands state.Queued = refl
state_stands state.QueuedHeld = refl
state_stands state.Running = refl
state_stands state.Suspended = refl
state_stands state.Requeued = refl
state_stands state.RequeuedHeld = refl
state_stands state.Done = refl
state_stands state.Failed = refl

pub kind_laws : IsFormat kind_form
unfolding kind_form
kind_laws = one_of_laws kind_text KINDS refl

pub kind_stands : (x : SignalKind) → first_spelled kind_text KINDS (kind_text x) ≡ Some x
kind_stands kind.Stop = refl
kind_stands kind.Cont = refl
kind_stands kind.Kill = refl

pub note_laws : IsFormat note_form
unfolding note_form
note_laws = one_of_laws note_text NOTES refl

pub note_stands : (x : Note) → x ≢ note.None → first_spelled note_text NOTES (note_text x) ≡ Some x
note_stands note.None some = absurd (some refl)
note_stands note.Terminated some = refl
note_stands note.PastDeadline some = refl
note_stands note.PastLimit some = refl
note_stands note.ReservationGone some = refl
note_stands note.StartFailed some = refl
note_stands note.ExitUnknown some = refl
note_stands note.SignalFailed some = refl

-- a note that is spelled is not None
pub note_here : (n : Note) → note_form.valid n → note_part n ≡ Some n
unfolding note_form
note_here note.None v = absurd (none-some _ v)
note_here note.Terminated v = refl
note_here note.PastDeadline v = refl
note_here note.PastLimit v = refl
note_here note.ReservationGone v = refl
note_here note.StartFailed v = refl
note_here note.ExitUnknown v = refl
note_here note.SignalFailed v = refl

pub note_there : (n : Note) → make_note (note_part n) ≡ n
note_there note.None = refl
note_there note.Terminated = refl
note_there note.PastDeadline = refl
note_there note.PastLimit = refl
note_there note.ReservationGone = refl
note_there note.StartFailed = refl
note_there note.ExitUnknown = refl
note_there note.SignalFailed = refl

pub note_of : (n : Option Note) → valid_or note_form.valid n → note_part (make_note n) ≡ n
note_of None v = refl
note_of (Some n) v = note_here n v

pub which_laws : IsFormat which_form
unfolding which_form
which_laws = one_of_laws which_text ARGUMENTS refl

pub which_stands : (x : Which) → first_spelled which_text ARGUMENTS (which_text x) ≡ Some x
which_stands which.SessionName = refl
which_stands which.Job = refl
which_stands which.Array = refl
which_stands which.Reservation = refl
which_stands which.Jobs = refl
which_stands which.Indices = refl
which_stands which.MaxParallel = refl
which_stands which.RemoteCommand = refl
which_stands which.Args = refl
which_stands which.JobEnvironment = refl
which_stands which.WorkingDirectory = refl
which_stands which.JobName = refl
which_stands which.InputPath = refl
which_stands which.OutputPath = refl
which_stands which.ErrorPath = refl
which_stands which.MinSlots = refl
which_stands which.MaxSlots = refl
which_stands which.DeadlineTime = refl
which_stands which.ResourceLimits = refl
which_stands which.ReservationName = refl
which_stands which.QueueName = refl
which_stands which.StartTime = refl
which_stands which.EndTime = refl
which_stands which.Duration = refl

pub limit_laws : IsFormat limit_form
unfolding limit_form
limit_laws = one_of_laws limit_text LIMITS refl

-- what is found in a table whose values all pass a test passes it
first_passes : {A : Type 0} (spelling : A → List ℕ) (test : A → Bool) (all : List A) (w : List ℕ) (x : A) → list_all test all ≡ true → first_spelled spelling all w ≡ Some x → test x ≡ true
first_passes spelling test [] w x h e = absurd (none-some _ e)
first_passes spelling test (y ∷ ys) w x h e =
    let t = both (test y) (list_all test ys) h in
    by_test (bytes_eq (spelling y) w)
    (λ b. ap test (sym (same_Some y x (rw b at e))) ∙ t.0)
    (λ b. first_passes spelling test ys w x t.1 (rw b at e))

pub limit_told : (o : Option Limit) (w : List ℕ) → o ≡ first_spelled limit_text LIMITS w → IfSome o (λ x. is_told x ≡ true)
limit_told None w e = tt
limit_told (Some x) w e = first_passes limit_text is_told LIMITS w x refl (sym e)

pub limit_stands : (x : Limit) → is_told x ≡ true → first_spelled limit_text LIMITS (limit_text x) ≡ Some x
limit_stands limit.Sessions t = refl
limit_stands limit.OpenSessions t = refl
limit_stands limit.Jobs t = refl
limit_stands limit.Reservations t = refl
limit_stands limit.Callbacks t = refl
limit_stands limit.WaitList t = refl
limit_stands limit.BulkMembers t = refl
limit_stands limit.TemplateText t = refl
limit_stands limit.KeptText t = refl
limit_stands (limit.Journal size) t = absurd (true_false (sym t))

pub attribute_laws : IsFormat attribute_form
unfolding attribute_form
attribute_laws = one_of_laws attribute_name ATTRIBUTES refl

pub attribute_stands : (x : Attribute) → first_spelled attribute_name ATTRIBUTES (attribute_name x) ≡ Some x
attribute_stands attribute.QueueName = refl
attribute_stands attribute.JobCategory = refl
attribute_stands attribute.Email = refl
attribute_stands attribute.EmailOnStarted = refl
attribute_stands attribute.EmailOnTerminated = refl
attribute_stands attribute.CandidateMachines = refl
attribute_stands attribute.MinPhysMemory = refl
attribute_stands attribute.MachineOs = refl
attribute_stands attribute.MachineArch = refl
attribute_stands attribute.StageInFiles = refl
attribute_stands attribute.StageOutFiles = refl
attribute_stands attribute.AccountingId = refl
attribute_stands attribute.UsersAcl = refl
attribute_stands attribute.CoreFileSize = refl
attribute_stands attribute.CpuTime = refl
attribute_stands attribute.DataSize = refl
attribute_stands attribute.FileSize = refl
attribute_stands attribute.OpenFiles = refl
attribute_stands attribute.StackSize = refl
attribute_stands attribute.VirtualMemory = refl
