pub mod SpeechLemmas
