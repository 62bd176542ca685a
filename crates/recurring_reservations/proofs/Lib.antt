mod AnswerLaws
mod Beyond
mod DenialLaws
mod Found
mod HoldLaws
mod RequestLaws
mod Spans
mod Told
