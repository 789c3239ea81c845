pub mod Account
