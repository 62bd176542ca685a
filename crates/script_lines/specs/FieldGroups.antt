-- The words of the lines of a job's template in groups, by what stands behind them.
use Rattle.script_lines.specs.declared.fields.JobFieldWord.{JobFieldWord}
use Rattle.script_lines.specs.declared.fields.JobFieldWord.TheVariants as word
use Rattle.script_lines.specs.declared.field_groups.TextFieldWord.{TextFieldWord}
use Rattle.script_lines.specs.declared.field_groups.TextFieldWord.TheVariants as text
use Rattle.script_lines.specs.declared.field_groups.CountFieldWord.{CountFieldWord}
use Rattle.script_lines.specs.declared.field_groups.CountFieldWord.TheVariants as count
use Rattle.script_lines.specs.declared.field_groups.MomentFieldWord.{MomentFieldWord}
use Rattle.script_lines.specs.declared.field_groups.MomentFieldWord.TheVariants as moment
use Rattle.script_lines.specs.declared.field_groups.GroupedField.{GroupedField}
use Rattle.script_lines.specs.declared.field_groups.GroupedField.TheVariants as of

abbrev pub text_word : TextFieldWord → JobFieldWord
text_word text.Command = word.Command
text_word text.Arg = word.Arg
text_word text.Directory = word.Directory
text_word text.Name = word.Name
text_word text.Input = word.Input
text_word text.Output = word.Output
text_word text.Error = word.Error
text_word text.Queue = word.Queue

abbrev pub count_word : CountFieldWord → JobFieldWord
count_word count.MinSlots = word.MinSlots
count_word count.MaxSlots = word.MaxSlots

abbrev pub moment_word : MomentFieldWord → JobFieldWord
moment_word moment.Start = word.Start
moment_word moment.Deadline = word.Deadline

abbrev pub field_word_of : GroupedField → JobFieldWord
field_word_of (of.Text w) = text_word w
field_word_of of.Hold = word.Hold
field_word_of of.Rerunnable = word.Rerunnable
field_word_of of.Env = word.Env
field_word_of of.Join = word.Join
field_word_of (of.Count w) = count_word w
field_word_of of.Priority = word.Priority
field_word_of (of.Moment w) = moment_word w
field_word_of of.Limit = word.Limit
field_word_of of.Other = word.Other
