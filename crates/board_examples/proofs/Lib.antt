mod Histories
mod LookRuns
mod Lines
mod SetupRuns
mod CheckedLogRuns
