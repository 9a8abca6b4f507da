mod FileLemmas
mod PortLemmas
