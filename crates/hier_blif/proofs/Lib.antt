mod Judged
mod Read
mod FlatTold
mod NamedFaults
mod NamedLines
