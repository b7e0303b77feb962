mod Lists
mod Looks
mod Marks
mod Joined
