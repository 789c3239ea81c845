pub mod Twofold
