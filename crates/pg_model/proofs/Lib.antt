mod AffectedVertices
pub mod LawsAffected
pub mod LawsAgreement
pub mod LawsByNumber
pub mod LawsDecides
pub mod LawsDelivered
pub mod LawsFolds
pub mod LawsIds
pub mod LawsInputs
pub mod LawsLength
pub mod LawsListed
pub mod LawsLists
pub mod LawsMade
pub mod LawsNeeded
pub mod LawsPresent
pub mod LawsPublications
pub mod LawsRising
pub mod LawsSearching
pub mod LawsShares
pub mod LawsSharesAlike
pub mod LawsVerticesWithInbox
mod MadeVertices
mod ReadyPrograms
mod ShortestPaths
