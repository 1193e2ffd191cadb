mod SerialRuns
mod ImageRuns
mod RecordRuns
mod RefusalRuns
mod SecondRuns
