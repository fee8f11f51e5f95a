pub mod Maps
pub mod Right
pub mod Sound
pub mod HintPlaces
pub mod DueHints
pub mod HintSearch
pub mod HintedTexts
