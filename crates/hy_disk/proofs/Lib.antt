mod Crashes
mod Offers
mod Replays
