pub mod Ran
pub mod TakenBack
pub mod Laws
pub mod BagLaws
pub mod EffectUnseen
pub mod EffectVisits
