-- Laws that several proofs here and above share.
pub mod FactLaws
pub mod TokenLaws
pub mod StepLaws
mod ReachLaws
pub mod RoomLaws
mod RelationLaws
mod MeetLaws
pub mod WalkLaws
