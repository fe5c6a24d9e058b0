pub mod Sound
pub mod Laws
pub mod TurnLaws
pub mod CallLaws
pub mod Refused
