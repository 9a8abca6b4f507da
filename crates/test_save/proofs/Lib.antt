-- the answers of tests alone
mod StaysFit
