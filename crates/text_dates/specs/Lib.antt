pub mod Dates
pub mod Said
pub mod DateLaws
pub mod SaidLaws
