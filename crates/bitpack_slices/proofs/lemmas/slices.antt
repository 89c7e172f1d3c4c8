-- Slices of the numbers 0 to 255: what tells one, what it matches, and how it is selected from.
pub mod BackLaws
pub mod EdgeLaws
pub mod MatchLaws
pub mod MemberLaws
pub mod PlaceLaws
pub mod RankLaws
pub mod SelectionLaws
pub mod SliceLaws
pub mod SumsLaws
