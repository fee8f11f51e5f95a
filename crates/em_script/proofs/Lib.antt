pub mod FirstWord
pub mod DecimalNumbers
pub mod EventsInOrder
pub mod PossibleEvents
pub mod NextEvent
pub mod ValidScript
pub mod OneScript
pub mod OneAnswer
