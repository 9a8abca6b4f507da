mod Texts
mod SoundTexts
mod GeneratedCells
mod GeneratedValid
