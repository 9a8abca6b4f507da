pub mod Digits
pub mod Raises
pub mod Depths
pub mod RaisedKeyed
