mod EqualCopies
mod KeptLogs
mod MovesLeft
